use Rattle.std.proofs.Common.{take}
use Rattle.std.specs.Prelude.{All}
use Rattle.endpoint_link.specs.Linked.{ReplacesChannel, SuitsChannel, SuitsCounterpart}
use Rattle.endpoint_link.proofs.joined.Joined.first_channel.Given as goal

abbrev pub invariant-loop-place : goal.invariant-loop-place
invariant-loop-place l = All (SuitsCounterpart (ReplacesChannel l.base l.given) (SuitsChannel l.base l.given) l.base.channels) (take l.place l.given.channels)
