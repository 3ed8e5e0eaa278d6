use Rattle.std.proofs.Common.{◌≡◌, ◌++◌, drop}
use Rattle.std.specs.List.{flat_map}
use Rattle.chor_print.specs.Parts.{service_text}
use Rattle.chor_print.proofs.canonical.put_services.Given as goal

abbrev pub invariant-loop-service : goal.invariant-loop-service
invariant-loop-service l = l.out.items ++ flat_map (service_text l.file.names) (drop l.service-index l.file.services) ≡ l.fn.out.items ++ flat_map (service_text l.file.names) l.file.services
