use Rattle.source_grammar.proofs.Sequels.{past, reads_past}
use Rattle.source_grammar.proofs.Values.{as_part, as_leads}
use Rattle.chor_lexer.specs.declared.mark.Mark.TheVariants.{Dot, Colon}
use Rattle.source_grammar.proofs.Terminals.{name_part, name_reads}
use Rattle.source_grammar.proofs.Statements.{passes, name_then, mark_then, role_then, past_name, past_mark, at_one}
use Rattle.source_grammar.proofs.StatementSteps.{past_role}
use Rattle.source_reader.proofs.statement.read_receiver.Goals as goal

pub returns-in_err-at-clause-halts : goal.returns-in_err-at-clause-halts
returns-in_err-at-clause-halts c = passes _ _ c.from_residual.ensures.1 (λ a e. at_one (λ u. role_then (λ b. mark_then Dot (λ v. name_then (λ x. mark_then Colon (λ w. as_part name_part))))) c.in_err-at.ensures.halts)

pub returns-in_err-part-clause-halts : goal.returns-in_err-part-clause-halts
returns-in_err-part-clause-halts c = passes _ _ c.from_residual-in_err-part.ensures.1 (λ a e. past (past_mark c.in_ok-at.ensures.read) (at_one (λ b. mark_then Dot (λ v. name_then (λ x. mark_then Colon (λ w. as_part name_part)))) c.in_err-part.ensures.halts))

pub returns-in_err-at-2-clause-halts : goal.returns-in_err-at-2-clause-halts
returns-in_err-at-2-clause-halts c = passes _ _ c.from_residual-in_err-at-2.ensures.1 (λ a e. past (past_mark c.in_ok-at.ensures.read) (past (past_role c.in_ok-part.ensures.reads) (at_one (λ v. name_then (λ x. mark_then Colon (λ w. as_part name_part))) c.in_err-at-2.ensures.halts)))

pub returns-in_err-var-clause-halts : goal.returns-in_err-var-clause-halts
returns-in_err-var-clause-halts c = passes _ _ c.from_residual-in_err-var.ensures.1 (λ a e. past (past_mark c.in_ok-at.ensures.read) (past (past_role c.in_ok-part.ensures.reads) (past (past_mark c.in_ok-at-2.ensures.read) (at_one (λ x. mark_then Colon (λ w. as_part name_part)) c.in_err-var.ensures.halts))))

pub returns-in_err-at-3-clause-halts : goal.returns-in_err-at-3-clause-halts
returns-in_err-at-3-clause-halts c = passes _ _ c.from_residual-in_err-at-3.ensures.1 (λ a e. past (past_mark c.in_ok-at.ensures.read) (past (past_role c.in_ok-part.ensures.reads) (past (past_mark c.in_ok-at-2.ensures.read) (past (past_name c.in_ok-var.ensures.read) (at_one (λ w. as_part name_part) c.in_err-at-3.ensures.halts)))))

pub returns-in_err-session-clause-halts : goal.returns-in_err-session-clause-halts
returns-in_err-session-clause-halts c = passes _ _ c.from_residual-in_err-session.ensures.1 (λ a e. past (past_mark c.in_ok-at.ensures.read) (past (past_role c.in_ok-part.ensures.reads) (past (past_mark c.in_ok-at-2.ensures.read) (past (past_name c.in_ok-var.ensures.read) (past (past_mark c.in_ok-at-3.ensures.read) (past (as_leads _) (c.in_err-session.ensures.halts)))))))

pub returns-clause-reads : goal.returns-clause-reads
returns-clause-reads c = λ a e. reads_past (past_mark c.in_ok-at.ensures.read) (reads_past (past_role c.in_ok-part.ensures.reads) (reads_past (past_mark c.in_ok-at-2.ensures.read) (reads_past (past_name c.in_ok-var.ensures.read) (reads_past (past_mark c.in_ok-at-3.ensures.read) (reads_past (as_leads _) (name_reads c.in_ok-session.ensures.read))))))
