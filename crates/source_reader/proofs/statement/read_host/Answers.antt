use Rattle.std.proofs.Common.{refl}
use Rattle.source_grammar.proofs.Sequels.{past, reads_past}
use Rattle.source_grammar.proofs.Values.{as_part, as_leads, after_part}
use Rattle.source_grammar.proofs.Expressions.{expr_part}
use Rattle.chor_lexer.specs.declared.mark.Mark.TheVariants.{OpenParen, Comma, CloseParen}
use Rattle.source_grammar.proofs.Terminals.{mark_part, mark_reads}
use Rattle.source_grammar.proofs.Statements.{passes, mark_then, past_name, past_mark, at_one, mark_apart, last_mark_apart}
use Rattle.source_grammar.proofs.StatementSteps.{past_expr, expr_halts}
use Rattle.source_reader.proofs.statement.read_host.Goals as goal

pub returns-in_err-name-clause-halts : goal.returns-in_err-name-clause-halts
returns-in_err-name-clause-halts c = passes _ _ c.from_residual.ensures.1 (at_one (λ f. mark_then OpenParen (λ u. after_part expr_part (λ a. mark_then Comma (λ v. after_part expr_part (λ b. as_part (mark_part CloseParen)) (λ e. last_mark_apart CloseParen refl))) (λ e. mark_apart Comma refl))) c.in_err-name.ensures.halts)

pub returns-in_err-at-clause-halts : goal.returns-in_err-at-clause-halts
returns-in_err-at-clause-halts c = passes _ _ c.from_residual-in_err-at.ensures.1 (past (past_name c.in_ok-name.ensures.read) (at_one (λ u. after_part expr_part (λ a. mark_then Comma (λ v. after_part expr_part (λ b. as_part (mark_part CloseParen)) (λ e. last_mark_apart CloseParen refl))) (λ e. mark_apart Comma refl)) c.in_err-at.ensures.halts))

pub returns-in_err-left-clause-halts : goal.returns-in_err-left-clause-halts
returns-in_err-left-clause-halts c = passes _ _ c.from_residual-in_err-left.ensures.1 (past (past_name c.in_ok-name.ensures.read) (past (past_mark c.in_ok-at.ensures.read) (expr_halts (λ a. mark_then Comma (λ v. after_part expr_part (λ b. as_part (mark_part CloseParen)) (λ e. last_mark_apart CloseParen refl))) (λ e. mark_apart Comma refl) c.in_err-left.ensures.halts)))

pub returns-in_err-at-2-clause-halts : goal.returns-in_err-at-2-clause-halts
returns-in_err-at-2-clause-halts c = passes _ _ c.from_residual-in_err-at-2.ensures.1 (past (past_name c.in_ok-name.ensures.read) (past (past_mark c.in_ok-at.ensures.read) (past (past_expr (λ e. mark_apart Comma refl) c.in_ok-left.ensures.reads) (at_one (λ v. after_part expr_part (λ b. as_part (mark_part CloseParen)) (λ e. last_mark_apart CloseParen refl)) c.in_err-at-2.ensures.halts))))

pub returns-in_err-right-clause-halts : goal.returns-in_err-right-clause-halts
returns-in_err-right-clause-halts c = passes _ _ c.from_residual-in_err-right.ensures.1 (past (past_name c.in_ok-name.ensures.read) (past (past_mark c.in_ok-at.ensures.read) (past (past_expr (λ e. mark_apart Comma refl) c.in_ok-left.ensures.reads) (past (past_mark c.in_ok-at-2.ensures.read) (expr_halts (λ b. as_part (mark_part CloseParen)) (λ e. last_mark_apart CloseParen refl) c.in_err-right.ensures.halts)))))

pub returns-in_err-at-3-clause-halts : goal.returns-in_err-at-3-clause-halts
returns-in_err-at-3-clause-halts c = passes _ _ c.from_residual-in_err-at-3.ensures.1 (past (past_name c.in_ok-name.ensures.read) (past (past_mark c.in_ok-at.ensures.read) (past (past_expr (λ e. mark_apart Comma refl) c.in_ok-left.ensures.reads) (past (past_mark c.in_ok-at-2.ensures.read) (past (past_expr (λ e. last_mark_apart CloseParen refl) c.in_ok-right.ensures.reads) (past (as_leads _) (c.in_err-at-3.ensures.halts)))))))

pub returns-clause-reads : goal.returns-clause-reads
returns-clause-reads c = reads_past (past_name c.in_ok-name.ensures.read) (reads_past (past_mark c.in_ok-at.ensures.read) (reads_past (past_expr (λ e. mark_apart Comma refl) c.in_ok-left.ensures.reads) (reads_past (past_mark c.in_ok-at-2.ensures.read) (reads_past (past_expr (λ e. last_mark_apart CloseParen refl) c.in_ok-right.ensures.reads) (reads_past (as_leads _) (mark_reads c.in_ok-at-3.ensures.read))))))
