use Rattle.transcript_lines.specs.Lines.{lines_of}
use Rattle.transcript_lines.specs.Whole.{whole_lines}
use Rattle.event_files.proofs.Skipped.{Skipped}
use Rattle.event_files.proofs.lines.has_few_lines.Given as goal

abbrev pub invariant-loop : goal.invariant-loop
invariant-loop l = Skipped (lines_of (whole_lines l.bytes)) l.counter l.rest
