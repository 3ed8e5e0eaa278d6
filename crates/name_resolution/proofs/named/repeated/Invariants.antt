use Rattle.std.proofs.Common.{◌≡◌, ◌++◌, map, drop}
use Rattle.chor_tree.specs.Names.{repeated}
use Rattle.chor_base.specs.Faults.{earlier, first_of_all}
use Rattle.name_resolution.specs.Places.{names_of}
use Rattle.name_resolution.specs.Sets.{AreAlike}
use Rattle.name_resolution.proofs.named.repeated.Given as goal

abbrev pub invariant-loop-item : goal.invariant-loop-item
invariant-loop-item g l = record {
  fault : earlier l.first (first_of_all (repeated l.known (map g.T.HasName.name_of (drop l.item-index l.items)))) ≡ first_of_all (repeated l.fn.known (map g.T.HasName.name_of l.items));
  known : AreAlike (l.known ++ names_of g.T.HasName.name_of (drop l.item-index l.items)) (l.fn.known ++ names_of g.T.HasName.name_of l.items);
}
