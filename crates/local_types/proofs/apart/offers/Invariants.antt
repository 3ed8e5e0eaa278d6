use Rattle.std.proofs.Common.{take}
use Rattle.global_types.specs.Moves.{IsIn}
use Rattle.global_types.specs.Views.{labels_of}
use Rattle.local_types.proofs.apart.offers.Given as goal

abbrev pub invariant-loop-arm : goal.invariant-loop-arm
invariant-loop-arm l = IsIn l.label (labels_of (take l.arm-index l.arms)) → ⊥
