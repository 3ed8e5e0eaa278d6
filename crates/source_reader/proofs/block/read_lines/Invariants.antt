use Rattle.std.proofs.Common.{length}
use Rattle.source_reader.specs.Reading.{names_of, tokens_from}
use Rattle.source_reader.proofs.Lines.{LinesCome}
use Rattle.source_reader.proofs.block.read_lines.Given as goal

abbrev pub invariant-loop-place : goal.invariant-loop-place
invariant-loop-place l = LinesCome (names_of l.input) (tokens_from l.input l.fn.at) l.fn.room.blocks l.fn.room.statements l.left l.lines.items (tokens_from l.input l.at)

abbrev pub decreases-loop-place : goal.decreases-loop-place
decreases-loop-place l = length (tokens_from l.input l.at)
