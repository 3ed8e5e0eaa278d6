use Rattle.grammar.proofs.Passing.{passes}
use Rattle.endpoint_reader.proofs.Tails.{tail_full, tail_missed}
use Rattle.endpoint_reader.proofs.body.begin_tail.Goals as goal

pub returns-in_default-clause-halts : goal.returns-in_default-clause-halts
returns-in_default-clause-halts c = tail_missed c.in_default.ensures.none c.refused.ensures.refuses

pub returns-in_err-check_room-clause-halts : goal.returns-in_err-check_room-clause-halts
returns-in_err-check_room-clause-halts c = passes _ _ c.from_residual.ensures.1 (tail_full _ _ _ c.in_err-check_room.ensures.full.0 c.in-Some.ensures.found c.in_err-check_room.ensures.full.1)
