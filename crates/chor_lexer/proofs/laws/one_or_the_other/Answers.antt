use Rattle.chor_lexer.proofs.Total.{one_or_the_other}
use Rattle.chor_lexer.proofs.laws.one_or_the_other.Goals as goal

pub returns : goal.returns
returns c = one_or_the_other
