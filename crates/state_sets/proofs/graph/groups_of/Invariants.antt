use Rattle.std.proofs.Common.{◌≡◌, take}
use Rattle.global_types.specs.Moves.{IsIn}
use Rattle.state_sets.specs.declared.graph.Group.{Group}
use Rattle.state_sets.specs.Graph.{HasOwnEdges, group_acts}
use Rattle.state_sets.proofs.graph.groups_of.Given as goal

abbrev pub invariant-loop-act : goal.invariant-loop-act
invariant-loop-act l = record {
  edges : (g : Group) → IsIn g l.groups.items → HasOwnEdges l.parts g;
  acts : group_acts l.groups.items ≡ take l.act-index l.acts;
}
