use Rattle.std.proofs.Common.{take}
use Rattle.global_types.specs.Moves.{IsIn}
use Rattle.state_sets.specs.declared.act.Act.{Act}
use Rattle.state_sets.specs.Graph.{Covers, IsActOf, AreApart}
use Rattle.state_sets.proofs.graph.acts.Given as goal

abbrev pub invariant-loop-item : goal.invariant-loop-item
invariant-loop-item l = record {
  own : (b : Act) → IsIn b l.acts.items → IsActOf l.moves b;
  covers : Covers (take l.item-index l.moves) l.acts.items;
  apart : AreApart l.acts.items;
}
