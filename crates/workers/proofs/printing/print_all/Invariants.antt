use Rattle.std.proofs.Common.{◌≡◌, ◌≤◌}
use Rattle.transcript.specs.Books.{words}
use Rattle.chor_stream.specs.declared.drain.Drained.TheVariants.{Dry}
use Rattle.chor_stream.specs.Ends.{printer_ring}
use Rattle.workers.specs.Printing.{Prints}
use Rattle.workers.proofs.printing.print_all.Given as goal

abbrev pub invariant-loop : goal.invariant-loop
invariant-loop g l = record {
  ring : printer_ring l.printer ≡ printer_ring l.initial.printer;
  prints : Prints (words l.book) l.initial.printer l.printer (g.K.Sink.state l.initial.out) (g.K.Sink.state l.out) Dry;
  rises : (g.K.Sink.state l.initial.out).faults ≤ (g.K.Sink.state l.out).faults;
}
