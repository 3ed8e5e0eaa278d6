use Rattle.std.proofs.Common.{◌≡◌, drop, true}
use Rattle.endpoint_code.specs.Network.{service_of}
use Rattle.endpoint_code.specs.Faults.{has_service}
use Rattle.session_starts.proofs.services.service_named.Given as goal

abbrev pub invariant-loop-service : goal.invariant-loop-service
invariant-loop-service l = record {
  there : has_service l.channel l.role (drop l.service-index l.services) ≡ true;
  same : service_of l.services l.channel l.role ≡ service_of (drop l.service-index l.services) l.channel l.role;
}
