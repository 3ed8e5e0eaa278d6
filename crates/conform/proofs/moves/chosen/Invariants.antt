use Rattle.std.proofs.Common.{◌≡◌, ℕ, take}
use Rattle.chor_base.specs.declared.names.NameId.{NameId}
use Rattle.global_types.specs.Moves.{IsIn}
use Rattle.conform.proofs.moves.chosen.Given as goal

abbrev pub invariant-loop-other : goal.invariant-loop-other
invariant-loop-other l = (q : NameId × ℕ) → IsIn q (take l.other-index l.labels) → q.0 ≡ l.label → ⊥
