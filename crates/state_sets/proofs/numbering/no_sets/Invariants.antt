use Rattle.std.proofs.Common.{ℕ, ◌≡◌, length}
use Rattle.std.specs.Prelude.{Option, Some, None, slice_get}
use Rattle.state_sets.proofs.numbering.no_sets.Given as goal

abbrev pub invariant-loop : goal.invariant-loop
invariant-loop l = record {
  size : length l.singles.items ≡ l.counter;
  none : (j : ℕ) (o : Option ℕ) → slice_get l.singles.items j ≡ Some o → o ≡ None;
}
