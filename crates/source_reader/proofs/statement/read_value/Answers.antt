use Rattle.std.proofs.Common.{refl}
use Rattle.source_grammar.proofs.Sequels.{past, reads_past}
use Rattle.source_grammar.proofs.Values.{as_part}
use Rattle.chor_lexer.specs.declared.mark.Mark.TheVariants.{Arrow, Dot, Colon}
use Rattle.source_grammar.proofs.Terminals.{name_part}
use Rattle.source_grammar.proofs.Statements.{passes, name_then, mark_then, role_then, mark_apart}
use Rattle.source_grammar.proofs.StatementSteps.{past_expr, expr_halts}
use Rattle.source_reader.proofs.statement.read_value.Goals as goal

pub returns-in_err-expr-clause-halts : goal.returns-in_err-expr-clause-halts
returns-in_err-expr-clause-halts c = passes _ _ c.from_residual.ensures.1 (expr_halts (λ e. mark_then Arrow (λ u. role_then (λ b. mark_then Dot (λ v. name_then (λ x. mark_then Colon (λ w. as_part name_part)))))) (λ e. mark_apart Arrow refl) c.in_err-expr.ensures.halts)

pub returns-in_err-receiver-clause-halts : goal.returns-in_err-receiver-clause-halts
returns-in_err-receiver-clause-halts c = passes _ _ c.from_residual-in_err-receiver.ensures.1 (past (past_expr (λ e. mark_apart Arrow refl) c.in_ok-expr.ensures.reads) (c.in_err-receiver.ensures.halts _ _))

pub returns-clause-reads : goal.returns-clause-reads
returns-clause-reads c = reads_past (past_expr (λ e. mark_apart Arrow refl) c.in_ok-expr.ensures.reads) (c.in_ok-receiver.ensures.reads _ _)
