use Rattle.std.proofs.Common.{ℕ, ◌≡◌, ◌<◌, ◌≤◌, length}
use Rattle.std.specs.Prelude.{◌⊎◌}
use Rattle.state_sets.specs.Sets.{Has, IsSetFor, row_at}
use Rattle.state_sets.proofs.graph.go_through.Given as goal

abbrev pub invariant-loop-number : goal.invariant-loop-number
invariant-loop-number l = record {
  size : length l.rows.items ≡ length l.initial.rows.items;
  done : (i : ℕ) → i < l.number → IsSetFor (length l.initial.rows.items) (λ j. Has (row_at l.initial.rows.items i) j ⊎ (Has (row_at l.initial.rows.items i) l.state × Has (row_at l.initial.rows.items l.state) j)) (row_at l.rows.items i);
  left : (i : ℕ) → l.number ≤ i → row_at l.rows.items i ≡ row_at l.initial.rows.items i;
}
