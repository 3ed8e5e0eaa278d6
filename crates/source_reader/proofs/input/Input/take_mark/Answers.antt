use Rattle.source_grammar.proofs.Terminals.{mark_halts}
use Rattle.source_reader.proofs.input.Input.take_mark.Goals as goal

pub returns-in-None-clause-halts : goal.returns-in-None-clause-halts
returns-in-None-clause-halts c = mark_halts c.in-None.ensures.none c.refused.ensures
