use Rattle.std.proofs.Common.{ℕ, ◌<◌, ◌≤◌}
use Rattle.state_sets.specs.Sets.{Has}
use Rattle.state_sets.proofs.marks.has_after.Given as goal

abbrev pub invariant-loop-state : goal.invariant-loop-state
invariant-loop-state l = (i : ℕ) → l.first ≤ i → i < l.state → Has l.marks i → ⊥
