use Rattle.std.proofs.Common.{drop}
use Rattle.std.specs.Prelude.{Option}
use Rattle.chor_base.specs.declared.fault.Fault.{Fault}
use Rattle.chor_base.specs.Faults.{earlier, IsFirst}
use Rattle.type_check.specs.InProcedures.{IsProcedureFault, IsFaultInSome}
use Rattle.type_check.proofs.checking.first_in_procedures.Given as goal

abbrev pub invariant-loop-procedure : goal.invariant-loop-procedure
invariant-loop-procedure l =
    (o : Option Fault) → IsFirst (IsFaultInSome (IsProcedureFault l.file) (drop l.procedure-index l.file.procs)) o
    → IsFirst (IsFaultInSome (IsProcedureFault l.file) l.file.procs) (earlier l.first o)
