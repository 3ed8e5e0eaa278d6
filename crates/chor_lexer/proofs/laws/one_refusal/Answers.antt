use Rattle.chor_lexer.proofs.Faults.{one_refusal}
use Rattle.chor_lexer.proofs.laws.one_refusal.Goals as goal

pub returns : goal.returns
returns c = one_refusal
