use Rattle.std.proofs.Common.{take}
use Rattle.std.specs.Prelude.{All}
use Rattle.endpoint_link.specs.Linked.{ReplacesProcess, SuitsProcess, SuitsCounterpart}
use Rattle.endpoint_link.proofs.joined.Joined.first_process.Given as goal

abbrev pub invariant-loop-place : goal.invariant-loop-place
invariant-loop-place l = All (SuitsCounterpart (ReplacesProcess l.base l.given) (SuitsProcess l.base l.given) l.base.processes) (take l.place l.given.processes)
