use Rattle.std.proofs.lemmas.Result.{err_from_is_err_and}
use Rattle.chor_lexer.proofs.Longest.{is_found, is_missed, missed_whole, is_none, is_some}
use Rattle.chor_lexer.proofs.expression.read_front.Goals as goal

pub returns-in_err-expr-clause-err : goal.returns-in_err-expr-clause-err
returns-in_err-expr-clause-err c =
    let p = err_from_is_err_and c.from_residual.result c.from_residual.ensures.1 in
    rw (p.1, p.2) (is_missed _ _ _ c.in_err-expr.ensures.err)

pub returns-then-is_empty-clause-err : goal.returns-then-is_empty-clause-err
returns-then-is_empty-clause-err c = missed_whole _ _ _ _ c.in_ok-expr.ensures.ok (is_none _ _ c.is_empty.ensures c.if-is_empty.true)

pub returns-clause-ok : goal.returns-clause-ok
returns-clause-ok c = is_found _ _ _ _ c.in_ok-expr.ensures.ok (is_some _ _ c.is_empty.ensures c.if-is_empty.false)
