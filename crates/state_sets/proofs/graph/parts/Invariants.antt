use Rattle.std.proofs.Common.{take}
use Rattle.state_sets.specs.Graph.{AreParts}
use Rattle.state_sets.proofs.graph.parts.Given as goal

abbrev pub invariant-loop-item : goal.invariant-loop-item
invariant-loop-item l = AreParts l.count (take l.item-index l.moves) l.parts.items
