use Rattle.grammar.proofs.Reading.{token_reads, token_comes, token_misses, reads_past, has_room, full_halts, missed, misses_within}
use Rattle.endpoint_reader.proofs.Rooms.{open_room, full_room}
use Rattle.endpoint_reader.proofs.input.Input.take_item.Goals as goal

pub returns-in-Some-clause-reads : goal.returns-in-Some-clause-reads
returns-in-Some-clause-reads c = reads_past _ (has_room _ (open_room c.args.room c.if-room-gt0.true)) (token_reads _ c.in-Some.ensures.found)

pub returns-in-Some-2-clause-halts : goal.returns-in-Some-2-clause-halts
returns-in-Some-2-clause-halts c = full_halts _ (full_room c.args.room c.if-room-gt0.false) (token_comes _ c.in-Some.ensures.found) c.refused.ensures.refuses

pub returns-in-None-clause-halts : goal.returns-in-None-clause-halts
returns-in-None-clause-halts c = missed _ (misses_within _ (token_misses _ c.in-None.ensures.none)) c.refused-in-None.ensures.refuses
