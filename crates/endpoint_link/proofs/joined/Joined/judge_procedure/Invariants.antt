use Rattle.std.proofs.Common.{take}
use Rattle.endpoint_link.specs.Judged.{IsVerdict}
use Rattle.endpoint_link.specs.InTables.{ReplacesProcedureIn, SuitsProcedureIn}
use Rattle.endpoint_link.proofs.joined.Joined.judge_procedure.Given as goal

abbrev pub invariant-loop-unit : goal.invariant-loop-unit
invariant-loop-unit l = IsVerdict (ReplacesProcedureIn l.self) (SuitsProcedureIn l.self) (take l.unit-index l.part) l.given l.verdict
