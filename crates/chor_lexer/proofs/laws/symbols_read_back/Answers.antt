use Rattle.chor_lexer.proofs.Spelling.{symbols_read_back}
use Rattle.chor_lexer.proofs.laws.symbols_read_back.Goals as goal

pub returns : goal.returns
returns c = symbols_read_back
