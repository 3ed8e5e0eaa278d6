use Rattle.source_grammar.proofs.Terminals.{word_halts}
use Rattle.source_reader.proofs.input.Input.take_word.Goals as goal

pub returns-in-None-clause-halts : goal.returns-in-None-clause-halts
returns-in-None-clause-halts c = λ k. word_halts k c.in-None.ensures.none c.refused.ensures
