use Rattle.std.proofs.Common.{ℕ, ◌≡◌, ◌<◌, length}
use Rattle.state_sets.specs.Sets.{IsSetFor, row_at}
use Rattle.state_sets.proofs.graph.alone.Given as goal

abbrev pub invariant-loop-state : goal.invariant-loop-state
invariant-loop-state l = record {
  size : length l.rows.items ≡ l.state;
  row : (i : ℕ) → i < l.state → IsSetFor l.count (λ j. i ≡ j) (row_at l.rows.items i);
}
