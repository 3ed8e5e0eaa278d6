use Rattle.std.proofs.Common.{◌≡◌, drop}
use Rattle.chor_base.proofs.FirstPlaces.{later}
use Rattle.conform.specs.Progress.{protocol_among}
use Rattle.conform.proofs.places.protocol_among.Given as goal

abbrev pub invariant-loop-place : goal.invariant-loop-place
invariant-loop-place l = later l.place (protocol_among (drop l.place l.protocols) l.name) ≡ protocol_among l.protocols l.name
