use Rattle.std.proofs.Common.{length}
use Rattle.transcript.specs.Books.{words}
use Rattle.conforming_logs.proofs.Along.{Along}
use Rattle.conforming_logs.proofs.reading.follow_lines.Given as goal

abbrev pub invariant-loop-line : goal.invariant-loop-line
invariant-loop-line l = Along (words l.book) l.file l.bytes l.rest l.count l.progress

abbrev pub decreases-loop-line : goal.decreases-loop-line
decreases-loop-line l = length l.rest
