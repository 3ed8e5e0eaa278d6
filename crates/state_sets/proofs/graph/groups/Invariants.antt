use Rattle.std.proofs.Common.{length}
use Rattle.state_sets.proofs.Gathered.{ActsSoFar}
use Rattle.state_sets.proofs.graph.groups.Given as goal

abbrev pub invariant-loop-part : goal.invariant-loop-part
invariant-loop-part l = ActsSoFar (length l.part-items) l.moves l.part-index l.all.items
