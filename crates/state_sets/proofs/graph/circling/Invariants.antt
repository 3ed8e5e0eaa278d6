use Rattle.std.proofs.Common.{ℕ, take, []}
use Rattle.state_sets.specs.Sets.{Has, row_at, IsSetFor}
use Rattle.state_sets.specs.Graph.{HasMove}
use Rattle.state_sets.proofs.graph.circling.Given as goal

abbrev pub invariant-loop-item : goal.invariant-loop-item
invariant-loop-item l = IsSetFor l.count (λ i. (j : ℕ) × HasMove (take l.item-index l.moves) i [] j × Has (row_at l.reach j) i) l.marks.items
