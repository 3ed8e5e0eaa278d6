use Rattle.std.proofs.Common.{ℕ, ◌≡◌, ◌<◌, ◌≤◌, length}
use Rattle.std.specs.Prelude.{◌==◌, slice_index_or, if◌then◌else◌}
use Rattle.state_sets.proofs.marks.put_all.Given as goal

abbrev pub invariant-loop-state : goal.invariant-loop-state
invariant-loop-state l = record {
  len : length l.marks.items ≡ length l.initial.marks.items;
  done : (i : ℕ) → i < l.state → slice_index_or l.marks.items i 0 ≡ (if slice_index_or l.others i 0 == 1 then 1 else slice_index_or l.initial.marks.items i 0);
  left : (i : ℕ) → l.state ≤ i → slice_index_or l.marks.items i 0 ≡ slice_index_or l.initial.marks.items i 0;
}
