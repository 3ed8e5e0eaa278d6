use Rattle.source_grammar.proofs.Terminals.{name_halts}
use Rattle.source_reader.proofs.input.Input.take_name.Goals as goal

pub returns-in-None-clause-halts : goal.returns-in-None-clause-halts
returns-in-None-clause-halts c = name_halts c.in-None.ensures.none c.refused.ensures
