use Rattle.std.proofs.Common.{◌≡◌, map, take}
use Rattle.endpoint_link.specs.Renumbered.{renumbered_arm}
use Rattle.endpoint_link.proofs.node.renumbered_arms.Given as goal

abbrev pub invariant-loop-arm : goal.invariant-loop-arm
invariant-loop-arm l = l.list ≡ map (renumbered_arm l.numbers) (take l.arm-index l.arms)
