use Rattle.std.proofs.Common.{drop}
use Rattle.std.specs.Prelude.{Option}
use Rattle.chor_base.specs.declared.fault.Fault.{Fault}
use Rattle.chor_base.specs.Faults.{earlier, IsFirst}
use Rattle.typing_rules.specs.Guarded.{IsGuardFault}
use Rattle.guard_check.specs.InBodies.{IsUnguardedInProcedures}
use Rattle.guard_check.proofs.checking.first_unguarded.Given as goal

abbrev pub invariant-loop-procedure : goal.invariant-loop-procedure
invariant-loop-procedure l = (o : Option Fault) → IsFirst (IsUnguardedInProcedures l.file (drop l.procedure-index l.file.procs)) o → IsFirst (IsGuardFault l.file) (earlier l.first o)
