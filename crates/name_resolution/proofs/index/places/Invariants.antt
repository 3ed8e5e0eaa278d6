use Rattle.std.proofs.Common.{drop}
use Rattle.name_resolution.specs.Places.{names_of}
use Rattle.name_resolution.proofs.Indexes.{IsIndexSoFar}
use Rattle.name_resolution.proofs.index.places.Given as goal

abbrev pub invariant-loop-place : goal.invariant-loop-place
invariant-loop-place g l = IsIndexSoFar (names_of g.T.HasName.name_of l.items) l.place (names_of g.T.HasName.name_of (drop l.place l.items)) l.places.map
