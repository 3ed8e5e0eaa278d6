use Rattle.std.proofs.Common.{take}
use Rattle.state_sets.specs.Moves.{action_of}
use Rattle.state_sets.specs.Graph.{AreEdges}
use Rattle.state_sets.proofs.graph.edges_of.Given as goal

abbrev pub invariant-loop-item : goal.invariant-loop-item
invariant-loop-item l = AreEdges (take l.item-index l.moves) (action_of l.act) l.edges.items
