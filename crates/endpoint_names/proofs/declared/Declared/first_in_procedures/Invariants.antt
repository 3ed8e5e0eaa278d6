use Rattle.std.proofs.Common.{◌≡◌, ◌++◌, [], map, drop}
use Rattle.std.specs.List.{flat_map}
use Rattle.chor_base.specs.Faults.{earlier, first_of_all}
use Rattle.endpoint_names.specs.Keys.{sign_of_procedure}
use Rattle.endpoint_names.specs.Faults.{repeated, procedure_faults}
use Rattle.endpoint_names.specs.Functions.{setting_of}
use Rattle.endpoint_names.proofs.declared.Declared.first_in_procedures.Given as goal

abbrev pub invariant-loop-procedure : goal.invariant-loop-procedure
invariant-loop-procedure l =
    earlier l.first (first_of_all (flat_map (procedure_faults (setting_of l.self.written.now l.self.functions)) (drop l.procedure-index l.self.written.now.procedures))) ≡ first_of_all (repeated [] (map sign_of_procedure l.self.written.now.procedures) ++ flat_map (procedure_faults (setting_of l.self.written.now l.self.functions)) l.self.written.now.procedures)
