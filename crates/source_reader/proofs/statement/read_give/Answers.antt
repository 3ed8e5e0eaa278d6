use Rattle.source_grammar.proofs.Sequels.{past, reads_past}
use Rattle.source_grammar.proofs.Values.{as_part, as_leads}
use Rattle.chor_lexer.specs.declared.mark.Mark.TheVariants.{CloseParen}
use Rattle.source_grammar.proofs.Terminals.{mark_part, mark_reads}
use Rattle.source_grammar.proofs.Statements.{passes, role_then, past_mark, at_one}
use Rattle.source_grammar.proofs.StatementSteps.{past_role}
use Rattle.source_reader.proofs.statement.read_give.Goals as goal

pub returns-in_err-at-clause-halts : goal.returns-in_err-at-clause-halts
returns-in_err-at-clause-halts c = passes _ _ c.from_residual.ensures.1 (at_one (λ u. role_then (λ h. as_part (mark_part CloseParen))) c.in_err-at.ensures.halts)

pub returns-in_err-given-clause-halts : goal.returns-in_err-given-clause-halts
returns-in_err-given-clause-halts c = passes _ _ c.from_residual-in_err-given.ensures.1 (past (past_mark c.in_ok-at.ensures.read) (at_one (λ h. as_part (mark_part CloseParen)) c.in_err-given.ensures.halts))

pub returns-in_err-at-2-clause-halts : goal.returns-in_err-at-2-clause-halts
returns-in_err-at-2-clause-halts c = passes _ _ c.from_residual-in_err-at-2.ensures.1 (past (past_mark c.in_ok-at.ensures.read) (past (past_role c.in_ok-given.ensures.reads) (past (as_leads _) (c.in_err-at-2.ensures.halts))))

pub returns-clause-reads : goal.returns-clause-reads
returns-clause-reads c = reads_past (past_mark c.in_ok-at.ensures.read) (reads_past (past_role c.in_ok-given.ensures.reads) (reads_past (as_leads _) (mark_reads c.in_ok-at-2.ensures.read)))
