use Rattle.std.proofs.Common.{◌≡◌, ◌++◌, [], map, drop}
use Rattle.std.specs.List.{flat_map}
use Rattle.chor_base.specs.Faults.{earlier, first_of_all}
use Rattle.endpoint_names.specs.Keys.{sign_of_service}
use Rattle.endpoint_names.specs.Faults.{repeated, service_faults}
use Rattle.endpoint_names.specs.Functions.{setting_of}
use Rattle.endpoint_names.proofs.declared.Declared.first_in_services.Given as goal

abbrev pub invariant-loop-service : goal.invariant-loop-service
invariant-loop-service l =
    earlier l.first (first_of_all (flat_map (service_faults (setting_of l.self.written.now l.self.functions)) (drop l.service-index l.self.written.now.services))) ≡ first_of_all (repeated [] (map sign_of_service l.self.written.now.services) ++ flat_map (service_faults (setting_of l.self.written.now l.self.functions)) l.self.written.now.services)
