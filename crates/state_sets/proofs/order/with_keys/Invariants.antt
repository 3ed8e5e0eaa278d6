use Rattle.std.proofs.Common.{take}
use Rattle.state_sets.specs.Order.{AreKeyed}
use Rattle.state_sets.proofs.order.with_keys.Given as goal

abbrev pub invariant-loop-act : goal.invariant-loop-act
invariant-loop-act l = AreKeyed l.names (take l.act-index l.acts) l.keyed.items
