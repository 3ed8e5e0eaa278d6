use Rattle.std.proofs.Common.{◌≡◌, map, take, drop, []}
use Rattle.chor_base.specs.Faults.{earlier, first_of_all}
use Rattle.endpoint_names.specs.Keys.{keys_of}
use Rattle.endpoint_names.specs.Places.{IsIndex}
use Rattle.endpoint_names.specs.Faults.{repeated}
use Rattle.endpoint_names.proofs.places.places_of.Given as goal

abbrev pub invariant-loop-place : goal.invariant-loop-place
invariant-loop-place g l = record {
  index : IsIndex (keys_of g.T.HasSign.sign_of (take l.place l.items)) l.places;
  fault : earlier l.first (first_of_all (repeated (keys_of g.T.HasSign.sign_of (take l.place l.items)) (map g.T.HasSign.sign_of (drop l.place l.items)))) ≡ first_of_all (repeated [] (map g.T.HasSign.sign_of l.items));
}
