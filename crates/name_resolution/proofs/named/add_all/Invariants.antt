use Rattle.std.proofs.Common.{◌++◌, drop}
use Rattle.name_resolution.specs.Places.{names_of}
use Rattle.name_resolution.specs.Sets.{AreAlike}
use Rattle.name_resolution.proofs.named.add_all.Given as goal

abbrev pub invariant-loop-item : goal.invariant-loop-item
invariant-loop-item g l = AreAlike (l.known ++ names_of g.T.HasName.name_of (drop l.item-index l.items)) (l.fn.known ++ names_of g.T.HasName.name_of l.items)
