use Rattle.std.proofs.Common.{◌≡◌, ◌++◌, map, drop}
use Rattle.endpoint_making.specs.Making.{service_made}
use Rattle.endpoint_making.proofs.units.services_of.Given as goal

abbrev pub invariant-loop-service : goal.invariant-loop-service
invariant-loop-service l = l.list ++ map service_made (drop l.service-index l.services) ≡ map service_made l.services
