use Rattle.std.proofs.Common.{take}
use Rattle.endpoint_link.specs.Judged.{IsVerdict}
use Rattle.endpoint_link.specs.InTables.{ReplacesServiceIn, SuitsServiceIn}
use Rattle.endpoint_link.proofs.joined.Joined.judge_service.Given as goal

abbrev pub invariant-loop-unit : goal.invariant-loop-unit
invariant-loop-unit l = IsVerdict (ReplacesServiceIn l.self) (SuitsServiceIn l.self) (take l.unit-index l.part) l.given l.verdict
