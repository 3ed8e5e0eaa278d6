use Rattle.accepted_orders.proofs.Networks.{same_events}
use Rattle.accepted_orders.proofs.laws.rearrangements_have_same_events.Goals as goal

pub returns : goal.returns
returns c f hosts cap h other r = same_events c.networks.ensures f hosts cap h r c.rearrangements_have_same_events.ensures.back c.rearrangements_have_same_events.ensures.to other
