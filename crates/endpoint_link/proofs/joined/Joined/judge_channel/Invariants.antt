use Rattle.std.proofs.Common.{take}
use Rattle.endpoint_link.specs.Judged.{IsVerdict}
use Rattle.endpoint_link.specs.InTables.{ReplacesChannelIn, SuitsChannelIn}
use Rattle.endpoint_link.proofs.joined.Joined.judge_channel.Given as goal

abbrev pub invariant-loop-unit : goal.invariant-loop-unit
invariant-loop-unit l = IsVerdict (ReplacesChannelIn l.self) (SuitsChannelIn l.self) (take l.unit-index l.part) l.given l.verdict
