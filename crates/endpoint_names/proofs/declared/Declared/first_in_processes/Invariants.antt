use Rattle.std.proofs.Common.{◌≡◌, ◌++◌, [], map, drop}
use Rattle.std.specs.List.{flat_map}
use Rattle.chor_base.specs.Faults.{earlier, first_of_all}
use Rattle.endpoint_names.specs.Keys.{sign_of_process}
use Rattle.endpoint_names.specs.Faults.{repeated, process_faults}
use Rattle.endpoint_names.specs.Functions.{setting_of}
use Rattle.endpoint_names.proofs.declared.Declared.first_in_processes.Given as goal

abbrev pub invariant-loop-process : goal.invariant-loop-process
invariant-loop-process l =
    earlier l.first (first_of_all (flat_map (process_faults (setting_of l.self.written.now l.self.functions)) (drop l.process-index l.self.written.now.processes))) ≡ first_of_all (repeated [] (map sign_of_process l.self.written.now.processes) ++ flat_map (process_faults (setting_of l.self.written.now l.self.functions)) l.self.written.now.processes)
