use Rattle.std.proofs.Common.{◌≡◌, drop}
use Rattle.chor_base.proofs.FirstPlaces.{later}
use Rattle.conform.specs.Progress.{role_among}
use Rattle.conform.proofs.places.role_among.Given as goal

abbrev pub invariant-loop-place : goal.invariant-loop-place
invariant-loop-place l = later l.place (role_among (drop l.place l.roles) l.name) ≡ role_among l.roles l.name
