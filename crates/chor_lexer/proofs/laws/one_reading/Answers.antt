use Rattle.chor_lexer.proofs.Cuts.{one_reading}
use Rattle.chor_lexer.proofs.laws.one_reading.Goals as goal

pub returns : goal.returns
returns c = one_reading
