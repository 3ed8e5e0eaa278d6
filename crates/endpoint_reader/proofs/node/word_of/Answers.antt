use Rattle.std.proofs.Common.{◌∙◌, sym}
use Rattle.endpoint_reader.proofs.Nodes.{no_word}
use Rattle.endpoint_reader.proofs.node.word_of.Goals as goal

pub returns-clause-none : goal.returns-clause-none
returns-clause-none c = no_word _ (sym c.is_word.ensures ∙ c.if-is_word.false) (sym c.is_word-2.ensures ∙ c.if-is_word-2.false) c.in_default.ensures.none (sym c.is_word-3.ensures ∙ c.if-is_word-3.false) (sym c.is_word-4.ensures ∙ c.if-is_word-4.false) (sym c.is_word-5.ensures ∙ c.if-is_word-5.false)
