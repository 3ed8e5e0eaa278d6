use Rattle.std.proofs.Common.{◌≡◌, map, take}
use Rattle.file_codes.specs.Shifted.{shift_arm}
use Rattle.file_codes.proofs.shifted.shifted_arms.Given as goal

abbrev pub invariant-loop-arm : goal.invariant-loop-arm
invariant-loop-arm l = l.list ≡ map (shift_arm l.by) (take l.arm-index l.arms)
