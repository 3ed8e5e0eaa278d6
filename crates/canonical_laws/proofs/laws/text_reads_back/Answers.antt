use Rattle.canonical_laws.proofs.Again.{read_again}
use Rattle.canonical_laws.proofs.WrittenFiles.{reads_back, text_reads_back}
use Rattle.canonical_laws.proofs.laws.text_reads_back.Goals as goal

pub returns-clause-some : goal.returns-clause-some
returns-clause-some c = reads_back

pub returns-clause-all : goal.returns-clause-all
returns-clause-all c = text_reads_back

pub returns-clause-again : goal.returns-clause-again
returns-clause-again c = read_again
