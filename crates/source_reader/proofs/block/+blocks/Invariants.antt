use Rattle.std.proofs.Common.{length}
use Rattle.source_reader.specs.Reading.{tokens_from}
use Rattle.source_reader.proofs.block.+blocks.Given as goal

abbrev pub decreases-read_block : goal.decreases-read_block
decreases-read_block l = length (tokens_from l.input.now l.at)

abbrev pub decreases-read_if : goal.decreases-read_if
decreases-read_if l = length (tokens_from l.input.now l.at)

abbrev pub decreases-read_tail : goal.decreases-read_tail
decreases-read_tail l = length (tokens_from l.input.now l.at)
