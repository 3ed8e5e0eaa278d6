use Rattle.source_grammar.proofs.Sequels.{past, reads_past}
use Rattle.source_grammar.proofs.Values.{as_leads}
use Rattle.source_grammar.proofs.Terminals.{name_reads}
use Rattle.source_grammar.proofs.Statements.{passes}
use Rattle.source_reader.proofs.statement.read_label.Goals as goal

pub returns-in_err-label-clause-halts : goal.returns-in_err-label-clause-halts
returns-in_err-label-clause-halts c = passes _ _ c.from_residual.ensures.1 (past (as_leads _) (c.in_err-label.ensures.halts))

pub returns-clause-reads : goal.returns-clause-reads
returns-clause-reads c = reads_past (as_leads _) (name_reads c.in_ok-label.ensures.read)
