use Rattle.std.proofs.Common.{length}
use Rattle.transcript.specs.Books.{words}
use Rattle.event_reader.proofs.PartTexts.{IsParted}
use Rattle.event_reader.proofs.parts.parts_of.Given as goal

abbrev pub invariant-loop-rest : goal.invariant-loop-rest
invariant-loop-rest l = IsParted (words l.book) l.bytes l.rest l.parts

abbrev pub decreases-loop-rest : goal.decreases-loop-rest
decreases-loop-rest l = length l.rest
