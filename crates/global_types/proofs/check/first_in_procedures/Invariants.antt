use Rattle.std.proofs.Common.{◌≡◌, drop}
use Rattle.std.specs.List.{flat_map}
use Rattle.global_types.specs.Faults.{procedure_faults}
use Rattle.chor_base.specs.Faults.{earlier, first_of_all}
use Rattle.global_types.proofs.check.first_in_procedures.Given as goal

abbrev pub invariant-loop-procedure : goal.invariant-loop-procedure
invariant-loop-procedure l = earlier l.first (first_of_all (flat_map (procedure_faults l.protocols) (drop l.procedure-index l.procs))) ≡ first_of_all (flat_map (procedure_faults l.protocols) l.procs)
