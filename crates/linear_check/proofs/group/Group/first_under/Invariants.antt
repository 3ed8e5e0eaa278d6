use Rattle.std.proofs.Common.{drop}
use Rattle.std.specs.Prelude.{Option}
use Rattle.chor_base.specs.declared.fault.Fault.{Fault}
use Rattle.chor_base.specs.Faults.{earlier, IsFirst}
use Rattle.linear_check.specs.Greatest.{IsUnorderedUnder, IsUnorderedInProcedures}
use Rattle.linear_check.proofs.group.Group.first_under.Given as goal

abbrev pub invariant-loop-procedure : goal.invariant-loop-procedure
invariant-loop-procedure l =
    (o : Option Fault) → IsFirst (IsUnorderedInProcedures l.self.file.now l.self.channels.names.now l.sets (drop l.procedure-index l.self.file.now.procs)) o
    → IsFirst (IsUnorderedUnder l.self.file.now l.self.channels.names.now l.sets) (earlier l.first o)
