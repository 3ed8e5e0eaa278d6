use Rattle.std.proofs.lemmas.Result.{err_from_is_err_and}
use Rattle.source_grammar.proofs.ExpressionAnswers.{expr_reads, refusal_halts}
use Rattle.source_reader.proofs.expression.read_expression.Goals as goal

pub returns-clause-reads : goal.returns-clause-reads
returns-clause-reads c = expr_reads _ _ _ _ _ c.in_ok-expr.ensures.found

pub returns-in_err-expr-clause-halts : goal.returns-in_err-expr-clause-halts
returns-in_err-expr-clause-halts c =
    let p = err_from_is_err_and c.from_residual.result c.from_residual.ensures.1 in
    rw (p.1, p.2) (refusal_halts _ _ _ c.in_err-expr.ensures.denied)
