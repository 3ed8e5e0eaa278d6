use Rattle.accepted_orders.proofs.Networks.{shared}
use Rattle.accepted_orders.proofs.laws.rearrangements_share_order.Goals as goal

pub returns : goal.returns
returns c f hosts cap h r i j one other = shared c.networks.ensures f hosts cap h r c.rearrangements_share_happens_before.ensures i j one other
