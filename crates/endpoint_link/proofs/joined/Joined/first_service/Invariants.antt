use Rattle.std.proofs.Common.{take}
use Rattle.std.specs.Prelude.{All}
use Rattle.endpoint_link.specs.Linked.{ReplacesService, SuitsService, SuitsCounterpart}
use Rattle.endpoint_link.proofs.joined.Joined.first_service.Given as goal

abbrev pub invariant-loop-place : goal.invariant-loop-place
invariant-loop-place l = All (SuitsCounterpart (ReplacesService l.base l.given) (SuitsService l.base l.given) l.base.services) (take l.place l.given.services)
