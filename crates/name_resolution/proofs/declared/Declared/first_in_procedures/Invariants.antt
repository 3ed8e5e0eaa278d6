use Rattle.std.proofs.Common.{◌≡◌, drop}
use Rattle.std.specs.List.{flat_map}
use Rattle.chor_tree.specs.Names.{procedure_faults}
use Rattle.chor_base.specs.Faults.{earlier, first_of_all}
use Rattle.name_resolution.proofs.declared.Declared.first_in_procedures.Given as goal

abbrev pub invariant-loop-procedure : goal.invariant-loop-procedure
invariant-loop-procedure l = earlier l.first (first_of_all (flat_map (procedure_faults l.self.file.now) (drop l.procedure-index (l.self.file.now.procs)))) ≡ first_of_all (flat_map (procedure_faults l.self.file.now) (l.self.file.now.procs))
