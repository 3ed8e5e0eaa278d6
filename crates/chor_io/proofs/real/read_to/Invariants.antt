use Rattle.std.proofs.Common.{◌≡◌, ◌+◌, ◌++◌, length, List, ℕ}
use Rattle.std.specs.Io.KnownBytes.{Consumes}
use Rattle.chor_io.proofs.real.read_to.Given as goal

abbrev pub invariant-loop-left : goal.invariant-loop-left
invariant-loop-left g l =
    (added : List ℕ) × (l.into.items ≡ l.fn.into.items ++ added) × (length added + l.left ≡ l.limit + 1)
    × Consumes (g.F.Read.remaining l.fn.file) (g.F.Read.remaining l.file) added

abbrev pub decreases-loop-left : goal.decreases-loop-left
decreases-loop-left g l = l.left
