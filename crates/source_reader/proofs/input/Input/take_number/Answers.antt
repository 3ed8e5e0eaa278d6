use Rattle.source_grammar.proofs.Headers.{number_halts}
use Rattle.source_reader.proofs.input.Input.take_number.Goals as goal

pub returns-in-None-clause-halts : goal.returns-in-None-clause-halts
returns-in-None-clause-halts c = number_halts c.in-None.ensures.none c.refused.ensures
