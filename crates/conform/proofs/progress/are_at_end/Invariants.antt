use Rattle.std.proofs.Common.{◌≡◌, ◌<◌, ℕ}
use Rattle.std.specs.Prelude.{Some, slice_get}
use Rattle.local_types.specs.declared.local_type.LocalType.{LocalType}
use Rattle.conform.specs.Steps.{StandsAtEnd}
use Rattle.conform.proofs.progress.are_at_end.Given as goal

abbrev pub invariant-loop-place : goal.invariant-loop-place
invariant-loop-place l = (j : ℕ) (t : LocalType) → j < l.place → slice_get l.types j ≡ Some t → StandsAtEnd t (slice_get l.session.states j)
