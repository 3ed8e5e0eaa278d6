use Rattle.std.proofs.Common.{drop}
use Rattle.std.specs.Prelude.{Option}
use Rattle.chor_host.specs.Functions.{names_of}
use Rattle.chor_host.specs.Tables.{functions_of}
use Rattle.chor_base.specs.declared.fault.Fault.{Fault}
use Rattle.chor_base.specs.Faults.{earlier, IsFirst}
use Rattle.name_resolution.specs.InProcedures.{IsFaultInProcedures}
use Rattle.name_resolution.proofs.declared.Declared.first_in_procedure_bodies.Given as goal

abbrev pub invariant-loop-procedure : goal.invariant-loop-procedure
invariant-loop-procedure g l =
    (o : Option Fault) → IsFirst (IsFaultInProcedures l.self.file.now (names_of (functions_of l.hosts)) (drop l.procedure-index l.self.file.now.procs)) o
    → IsFirst (IsFaultInProcedures l.self.file.now (names_of (functions_of l.hosts)) l.self.file.now.procs) (earlier l.first o)
