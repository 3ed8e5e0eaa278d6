use Rattle.std.proofs.Common.{◌≡◌, drop}
use Rattle.typing_rules.specs.Allowed.{arm_of}
use Rattle.typing_steps.proofs.allowed.arm_of.Given as goal

abbrev pub invariant-loop-arm : goal.invariant-loop-arm
invariant-loop-arm l = arm_of (drop l.arm-index l.arms) l.label ≡ arm_of l.arms l.label
