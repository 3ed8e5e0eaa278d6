use Rattle.std.proofs.Common.{◌∙◌, sym}
use Rattle.endpoint_reader.proofs.Nodes.{no_exchange}
use Rattle.endpoint_reader.proofs.node.exchange_of.Goals as goal

pub returns-clause-none : goal.returns-clause-none
returns-clause-none c = no_exchange _ (sym c.is_word.ensures ∙ c.if-is_word.false) (sym c.is_word-2.ensures ∙ c.if-is_word-2.false) (sym c.is_word-3.ensures ∙ c.if-is_word-3.false) (sym c.is_word-4.ensures ∙ c.if-is_word-4.false)
