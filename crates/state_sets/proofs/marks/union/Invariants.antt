use Rattle.std.proofs.Common.{ℕ, ◌<◌, length}
use Rattle.state_sets.specs.Sets.{Has, row_at, IsSetFor}
use Rattle.state_sets.proofs.marks.union.Given as goal

abbrev pub invariant-loop-state : goal.invariant-loop-state
invariant-loop-state l = IsSetFor (length l.marks) (λ i. (k : ℕ) × (k < l.state) × Has l.marks k × Has (row_at l.rows k) i) l.all.items
