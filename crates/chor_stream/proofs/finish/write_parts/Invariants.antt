use Rattle.std.proofs.Common.{length, ◌+◌, ◌≡◌, ◌≤◌}
use Rattle.chor_io.specs.Outside.{SinkState}
use Rattle.transcript.specs.Books.{words}
use Rattle.chor_stream.specs.declared.finish.Finished.{Finished}
use Rattle.chor_stream.specs.Lines.{entry_lines, Finishes}
use Rattle.chor_stream.proofs.finish.write_parts.Given as goal

abbrev pub invariant-loop-rest : goal.invariant-loop-rest
invariant-loop-rest g l = record {
  count : l.next + length l.rest ≡ l.fn.count + length l.fn.entries;
  lines : (answer : Finished) (last : SinkState) → Finishes answer (g.K.Sink.state l.out) last (entry_lines (words l.book) (l.next + 1) l.rest) → Finishes answer (g.K.Sink.state l.fn.out) last (entry_lines (words l.book) (l.fn.count + 1) l.fn.entries);
  rises : (g.K.Sink.state l.fn.out).faults ≤ (g.K.Sink.state l.out).faults;
}

abbrev pub decreases-loop-rest : goal.decreases-loop-rest
decreases-loop-rest g l = length l.rest
