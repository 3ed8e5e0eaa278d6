use Rattle.event_orders.proofs.Commuting.{commute}
use Rattle.event_orders.proofs.independent_steps_commute.Goals as goal

pub returns : goal.returns
returns c e hosts cap n m k x y exclusive free a b = commute e hosts cap n m k x y exclusive free a b
