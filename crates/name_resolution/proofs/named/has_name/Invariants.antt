use Rattle.std.proofs.Common.{◌≡◌, drop}
use Rattle.chor_tree.specs.Names.{is_among}
use Rattle.name_resolution.specs.Places.{names_of}
use Rattle.name_resolution.proofs.named.has_name.Given as goal

abbrev pub invariant-loop-item : goal.invariant-loop-item
invariant-loop-item g l = is_among (names_of g.T.HasName.name_of (drop l.item-index l.items)) l.name ≡ is_among (names_of g.T.HasName.name_of l.items) l.name
