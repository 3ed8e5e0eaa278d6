use Rattle.std.proofs.Common.{◌≡◌, ◌++◌, drop}
use Rattle.local_types.specs.States.{labelled}
use Rattle.local_types.proofs.view.labels.Given as goal

abbrev pub invariant-loop-arm : goal.invariant-loop-arm
invariant-loop-arm l = l.labels ++ labelled (drop l.arm-index l.arms) ≡ labelled l.arms
