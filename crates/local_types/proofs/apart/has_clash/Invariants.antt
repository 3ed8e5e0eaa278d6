use Rattle.std.proofs.Common.{ℕ, ◌<◌}
use Rattle.state_sets.specs.Sets.{Has, row_at}
use Rattle.state_sets.specs.Table.{Meets}
use Rattle.local_types.proofs.apart.has_clash.Given as goal

abbrev pub invariant-loop-state : goal.invariant-loop-state
invariant-loop-state l = (i : ℕ) → i < l.state → Has l.marks i → Meets l.marks (row_at l.apart i) → ⊥
