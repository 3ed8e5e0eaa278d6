use Rattle.std.proofs.Common.{take}
use Rattle.global_types.specs.Moves.{IsIn}
use Rattle.state_sets.specs.declared.graph.Edge.{Edge}
use Rattle.state_sets.specs.Sets.{Has}
use Rattle.state_sets.proofs.table.is_allowed.Given as goal

abbrev pub invariant-loop-edge : goal.invariant-loop-edge
invariant-loop-edge l = (e : Edge) → IsIn e (take l.edge-index l.edges) → Has l.still e.from → ⊥
