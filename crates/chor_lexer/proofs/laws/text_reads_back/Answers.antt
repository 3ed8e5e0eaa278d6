use Rattle.chor_lexer.proofs.PrintedCuts.{text_reads_back}
use Rattle.chor_lexer.proofs.ReadBack.{reads_back}
use Rattle.chor_lexer.proofs.laws.text_reads_back.Goals as goal

pub returns-clause-some : goal.returns-clause-some
returns-clause-some c = reads_back

pub returns-clause-all : goal.returns-clause-all
returns-clause-all c = text_reads_back
