use Rattle.std.proofs.Common.{◌≡◌, take, length}
use Rattle.global_types.specs.Moves.{IsIn}
use Rattle.state_sets.specs.declared.graph.Edge.{Edge}
use Rattle.state_sets.specs.Sets.{Has, IsSetFor}
use Rattle.state_sets.proofs.numbering.targets.Given as goal

abbrev pub invariant-loop-edge : goal.invariant-loop-edge
invariant-loop-edge l = IsSetFor (length l.still) (λ j. (e : Edge) × IsIn e (take l.edge-index l.edges) × Has l.still e.from × (e.to ≡ j)) l.after.items
