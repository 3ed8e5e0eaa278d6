use Rattle.std.proofs.Common.{◌≡◌, ◌++◌, drop}
use Rattle.std.specs.List.{flat_map}
use Rattle.endpoint_text.specs.Text.{service_line}
use Rattle.endpoint_text.proofs.print.put_services.Given as goal

abbrev pub invariant-loop-service : goal.invariant-loop-service
invariant-loop-service l = l.out.items ++ flat_map (service_line l.e) (drop l.service-index l.e.services) ≡ l.fn.out.items ++ flat_map (service_line l.e) l.e.services
