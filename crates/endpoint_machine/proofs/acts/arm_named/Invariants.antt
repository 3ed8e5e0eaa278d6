use Rattle.std.proofs.Common.{◌≡◌, drop}
use Rattle.endpoint_code.specs.Network.{arm_at}
use Rattle.endpoint_machine.proofs.acts.arm_named.Given as goal

abbrev pub invariant-loop-arm : goal.invariant-loop-arm
invariant-loop-arm l = arm_at l.arms l.label ≡ arm_at (drop l.arm-index l.arms) l.label
