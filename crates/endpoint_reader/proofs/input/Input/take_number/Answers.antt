use Rattle.grammar.proofs.Reading.{token_reads, token_halts}
use Rattle.endpoint_reader.proofs.input.Input.take_number.Goals as goal

pub returns-in-Some-clause-reads : goal.returns-in-Some-clause-reads
returns-in-Some-clause-reads c = token_reads _ c.in-Some.ensures.found.stands

pub returns-in-None-clause-halts : goal.returns-in-None-clause-halts
returns-in-None-clause-halts c = token_halts _ c.in-None.ensures.none c.refused.ensures.refuses
