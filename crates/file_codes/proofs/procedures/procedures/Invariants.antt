use Rattle.std.proofs.Common.{take}
use Rattle.file_codes.specs.Units.{AreProcedures}
use Rattle.file_codes.proofs.procedures.procedures.Given as goal

abbrev pub invariant-loop-proc : goal.invariant-loop-proc
invariant-loop-proc l = AreProcedures l.file (take l.proc-index l.proc-items) l.fn.code.nodes l.code.nodes l.procedures
