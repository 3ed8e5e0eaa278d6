use Rattle.std.proofs.Common.{◌≡◌, ◌++◌, drop}
use Rattle.state_sets.specs.Order.{keyed_acts}
use Rattle.state_sets.proofs.order.acts_of.Given as goal

abbrev pub invariant-loop-item : goal.invariant-loop-item
invariant-loop-item l = l.acts.items ++ keyed_acts (drop l.item-index l.keyed) ≡ keyed_acts l.keyed
