use Rattle.event_reader.proofs.Numerals.{SameTexts}
use Rattle.event_reader.proofs.numbers.is_written.Given as goal

abbrev pub invariant-loop-left : goal.invariant-loop-left
invariant-loop-left l = SameTexts l.digits l.number l.rest l.left

abbrev pub decreases-loop-left : goal.decreases-loop-left
decreases-loop-left l = l.left
