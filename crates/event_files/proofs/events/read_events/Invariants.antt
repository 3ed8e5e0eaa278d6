use Rattle.std.proofs.Common.{length}
use Rattle.transcript.specs.Books.{words}
use Rattle.event_files.specs.Fronts.{IsRead}
use Rattle.event_files.proofs.events.read_events.Given as goal

abbrev pub invariant-loop-line : goal.invariant-loop-line
invariant-loop-line l = IsRead (words l.book) l.bytes l.events l.rest

abbrev pub decreases-loop-line : goal.decreases-loop-line
decreases-loop-line l = length l.rest
