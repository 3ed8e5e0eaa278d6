use Rattle.std.proofs.Common.{ℕ, ◌≡◌, ◌<◌, length}
use Rattle.state_sets.specs.Sets.{IsSetFor, row_at}
use Rattle.state_sets.specs.Table.{ApartAt}
use Rattle.local_types.proofs.apart.apart.Given as goal

abbrev pub invariant-loop-state : goal.invariant-loop-state
invariant-loop-state l = record {
  size : length l.rows.items ≡ l.state-index;
  row : (i : ℕ) → i < l.state-index → IsSetFor (length l.states) (ApartAt l.states l.role i) (row_at l.rows.items i);
}
