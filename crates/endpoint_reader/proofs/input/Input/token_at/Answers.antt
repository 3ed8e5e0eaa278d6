use Rattle.std.proofs.Common.{sym, ◌∙◌}
use Rattle.endpoint_reader.proofs.Ends.{token_is, token_inside, ends_there, token_known}
use Rattle.endpoint_reader.proofs.input.Input.token_at.Goals as goal

pub returns-then-is_last-clause-none : goal.returns-then-is_last-clause-none
returns-then-is_last-clause-none c = ends_there _ _ _ c.args.self.now.tokens.now.ended c.first_from-token.ensures (sym c.is_last.ensures ∙ c.if-is_last.true)

pub returns-else-is_last-clause-found : goal.returns-else-is_last-clause-found
returns-else-is_last-clause-found c = token_is _ _ _ c.args.self.now.tokens.now.ended c.first_from-token.ensures (sym c.is_last.ensures ∙ c.if-is_last.false)

pub returns-else-is_last-clause-inside : goal.returns-else-is_last-clause-inside
returns-else-is_last-clause-inside c = token_inside _ _ _ c.args.self.now.tokens.now.ended c.first_from-token.ensures (sym c.is_last.ensures ∙ c.if-is_last.false)

pub returns-else-is_last-clause-known : goal.returns-else-is_last-clause-known
returns-else-is_last-clause-known c = token_known c.args.self.now c.args.at _ c.first_from-token.ensures
