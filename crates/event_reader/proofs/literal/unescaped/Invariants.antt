use Rattle.std.proofs.Common.{length}
use Rattle.event_reader.proofs.Quoted.{IsUnescaped}
use Rattle.event_reader.proofs.literal.unescaped.Given as goal

abbrev pub invariant-loop-rest : goal.invariant-loop-rest
invariant-loop-rest l = IsUnescaped l.body l.rest l.text.items

abbrev pub decreases-loop-rest : goal.decreases-loop-rest
decreases-loop-rest l = length l.rest
