use Rattle.source_grammar.proofs.Nested.{no_block, too_many_blocks}
use Rattle.source_reader.proofs.block.open_block.Goals as goal

pub returns-in_default-clause-halts : goal.returns-in_default-clause-halts
returns-in_default-clause-halts c = no_block _ _ c.in_default.ensures.none c.refused.ensures

pub returns-then-room-eq0-clause-halts : goal.returns-then-room-eq0-clause-halts
returns-then-room-eq0-clause-halts c = too_many_blocks _ _ c.if-room-eq0.true c.in-Some.ensures.found c.refused-then-room-eq0.ensures
