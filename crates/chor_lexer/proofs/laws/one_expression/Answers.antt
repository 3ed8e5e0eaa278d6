use Rattle.chor_lexer.proofs.Derivations.{one_expression}
use Rattle.chor_lexer.proofs.laws.one_expression.Goals as goal

pub returns : goal.returns
returns c = one_expression
