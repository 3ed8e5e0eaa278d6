use Rattle.grammar.proofs.Reading.{token_comes, token_misses}
use Rattle.grammar.proofs.Windows.{token_in, full_in, missed_in}
use Rattle.endpoint_reader.proofs.Rooms.{no_room}
use Rattle.endpoint_reader.proofs.input.Input.take_mark_in.Goals as goal

pub returns-in-Some-clause-reads : goal.returns-in-Some-clause-reads
returns-in-Some-clause-reads c = token_in _ _ c.if-room-gt0.true c.in-Some.ensures.found.stands

pub returns-in-Some-2-clause-halts : goal.returns-in-Some-2-clause-halts
returns-in-Some-2-clause-halts c = full_in _ _ (no_room _ c.if-room-gt0.false) (token_comes _ c.in-Some.ensures.found.stands) c.refused.ensures.refuses

pub returns-in-None-clause-halts : goal.returns-in-None-clause-halts
returns-in-None-clause-halts c = missed_in _ _ (token_misses _ c.in-None.ensures.none) c.refused-in-None.ensures.refuses
