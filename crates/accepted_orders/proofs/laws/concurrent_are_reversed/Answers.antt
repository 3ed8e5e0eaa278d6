use Rattle.accepted_orders.proofs.Networks.{reversed}
use Rattle.accepted_orders.proofs.laws.concurrent_are_reversed.Goals as goal

pub returns : goal.returns
returns c f hosts cap h r i j one other differ never = reversed c.networks.ensures f hosts cap h r c.linear_extensions_are_runs.ensures c.unordered_are_reversed.ensures i j one other differ never
