use Rattle.std.proofs.Common.{◌≡◌, ◌==◌, false, take}
use Rattle.std.specs.Prelude.{All}
use Rattle.branch_merge.proofs.arms.place_of.Given as goal

abbrev pub invariant-loop-place : goal.invariant-loop-place
invariant-loop-place l = All (λ arm. (arm.0.0 == l.label.0) ≡ false) (take l.place l.arms)
