use Rattle.std.proofs.Common.{arith}
use Rattle.chor_lexer.proofs.Spelled.{quotes_within, inner_is}
use Rattle.chor_lexer.proofs.lex.between_quotes.Goals as goal

pub split_at-requires : goal.split_at-requires
split_at-requires c = omega (arith, quotes_within _ c.requires)

pub returns : goal.returns
returns c = inner_is _ _ _ c.requires c.split_at.ensures.back c.split_at-2.ensures.front
