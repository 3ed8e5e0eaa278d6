use Rattle.std.proofs.Common.{take}
use Rattle.global_types.specs.Moves.{IsIn}
use Rattle.state_sets.specs.declared.graph.Edge.{Edge}
use Rattle.state_sets.specs.Sets.{row_at}
use Rattle.state_sets.specs.Starts.{HasMoreStarts}
use Rattle.state_sets.proofs.starts.add_group.Given as goal

abbrev pub invariant-loop-edge : goal.invariant-loop-edge
invariant-loop-edge l = record {
  more : HasMoreStarts l.initial.starts.items l.starts.items;
  added : (e : Edge) → IsIn e (take l.edge-index l.edges) → IsIn l.number (row_at l.starts.items e.from);
}
