use Rattle.chor_lexer.proofs.Cuts.{not_both}
use Rattle.chor_lexer.proofs.laws.never_both.Goals as goal

pub returns : goal.returns
returns c = not_both
