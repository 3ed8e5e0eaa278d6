use Rattle.std.proofs.Common.{sym, ◌∙◌}
use Rattle.endpoint_reader.proofs.Known.{not_keyword}
use Rattle.endpoint_reader.proofs.input.Input.word_leaf.Goals as goal

pub returns-then-is_name-clause-known : goal.returns-then-is_name-clause-known
returns-then-is_name-clause-known c = (c.requires, not_keyword c.args.self.now c.args.name (sym c.is_name.ensures ∙ c.if-is_name.true))
