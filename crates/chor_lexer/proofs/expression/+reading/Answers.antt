use Rattle.std.proofs.Common.{length, sym, ap, ◌∙◌, arith}
use Rattle.std.proofs.lemmas.Result.{err_from_is_err_and}
use Rattle.chor_lexer.specs.Turns.{operand_of, unary_of, operator_at, is_open, is_close}
use Rattle.chor_lexer.proofs.Operands.{level_comes, stops_first, stops_on, comes_on, reads_once, reads_level, reads_operand, reads_unary, stops_unary, no_operand, reads_parens, stops_parens, stops_unclosed, tail_shorter}
use Rattle.chor_lexer.proofs.expression.+reading.Goals as goal

pub read_level-returns-in_err-left-clause-err : goal.read_level-returns-in_err-left-clause-err
read_level-returns-in_err-left-clause-err t c =
    let p = err_from_is_err_and c.from_residual.result c.from_residual.ensures.1 in
    rw (p.1, p.2) (stops_first _ _ _ _ _ c.in-Some.ensures c.in_err-left.ensures.err)

pub read_level-loop-op-init : goal.read_level-loop-op-init
read_level-loop-op-init t c = level_comes _ _ _ _ _ _ c.in-Some.ensures c.in_ok-left.ensures.ok

pub read_level-returns-in_err-right-clause-err : goal.read_level-returns-in_err-right-clause-err
read_level-returns-in_err-right-clause-err t c =
    let p = err_from_is_err_and c.from_residual-in_err-right.result c.from_residual-in_err-right.ensures.1 in
    rw (p.1, p.2) (stops_on _ _ _ _ _ _ _ _ _ c.in-Some.ensures c.loop-op.invariant (c.in-Some-operator_at.ensures ∙ ap (operator_at c.args.level) c.front.ensures) c.rest_of.ensures c.in_err-right.ensures.err)

pub read_level-returns-then-not-repeats-clause-ok : goal.read_level-returns-then-not-repeats-clause-ok
read_level-returns-then-not-repeats-clause-ok t c =
    rw c.in_ok-left-2.ensures (reads_once _ _ _ _ _ _ _ _ _ _ c.in-Some.ensures c.loop-op.invariant (c.in-Some-operator_at.ensures ∙ ap (operator_at c.args.level) c.front.ensures) c.rest_of.ensures c.in_ok-right.ensures.ok (sym c.repeats.ensures ∙ c.if-not-repeats.true))

pub read_level-loop-op-smaller : goal.read_level-loop-op-smaller
read_level-loop-op-smaller t c = omega (arith, c.in_ok-right.ensures.ok.shorter, tail_shorter c.loop-op.rest.now, ap length c.rest_of.ensures)

pub read_level-loop-op-preserved : goal.read_level-loop-op-preserved
read_level-loop-op-preserved t c =
    rw c.in_ok-left-2.ensures (comes_on _ _ _ _ _ _ _ _ _ _ c.in-Some.ensures c.loop-op.invariant (c.in-Some-operator_at.ensures ∙ ap (operator_at c.args.level) c.front.ensures) c.rest_of.ensures c.in_ok-right.ensures.ok (sym c.repeats.ensures ∙ c.if-not-repeats.false))

pub read_level-returns-clause-ok : goal.read_level-returns-clause-ok
read_level-returns-clause-ok t c = reads_level _ _ _ _ _ c.loop-op.invariant (c.in_default-operator_at.ensures ∙ ap (operator_at c.args.level) c.front.ensures)

pub read_unary-returns-in-Some-clause-ok : goal.read_unary-returns-in-Some-clause-ok
read_unary-returns-in-Some-clause-ok t c = reads_operand _ _ _ _ (sym (ap (operand_of c.args.names.now) c.front-kind.ensures) ∙ c.in-Some.ensures) c.rest_of-rest.ensures

pub read_unary-returns-in_err-operand-clause-err : goal.read_unary-returns-in_err-operand-clause-err
read_unary-returns-in_err-operand-clause-err t c =
    let p = err_from_is_err_and c.from_residual.result c.from_residual.ensures.1 in
    rw (p.1, p.2) (stops_unary _ _ _ _ _ (sym (ap (operand_of c.args.names.now) c.front-kind.ensures) ∙ c.in_default.ensures) (c.in-Some-unary_of.ensures ∙ ap unary_of c.front-kind.ensures) c.rest_of-rest.ensures c.in_err-operand.ensures.err)

pub read_unary-returns-in-Some-unary_of-clause-ok : goal.read_unary-returns-in-Some-unary_of-clause-ok
read_unary-returns-in-Some-unary_of-clause-ok t c =
    rw c.in_ok-apply.ensures (reads_unary _ _ _ _ _ _ (sym (ap (operand_of c.args.names.now) c.front-kind.ensures) ∙ c.in_default.ensures) (c.in-Some-unary_of.ensures ∙ ap unary_of c.front-kind.ensures) c.rest_of-rest.ensures c.in_ok-operand.ensures.ok)

pub read_unary-returns-then-not-is_open-clause-err : goal.read_unary-returns-then-not-is_open-clause-err
read_unary-returns-then-not-is_open-clause-err t c =
    no_operand _ _ (sym (ap (operand_of c.args.names.now) c.front-kind.ensures) ∙ c.in_default.ensures) (c.in_default-unary_of.ensures ∙ ap unary_of c.front-kind.ensures) (sym (ap is_open c.front-kind.ensures) ∙ sym c.is_open.ensures ∙ c.if-not-is_open.true)

pub read_unary-returns-in_err-expr-clause-err : goal.read_unary-returns-in_err-expr-clause-err
read_unary-returns-in_err-expr-clause-err t c =
    let p = err_from_is_err_and c.from_residual-in_err-expr.result c.from_residual-in_err-expr.ensures.1 in
    rw (p.1, p.2) (stops_parens _ _ _ _ (sym (ap (operand_of c.args.names.now) c.front-kind.ensures) ∙ c.in_default.ensures) (c.in_default-unary_of.ensures ∙ ap unary_of c.front-kind.ensures) (sym (ap is_open c.front-kind.ensures) ∙ sym c.is_open.ensures ∙ c.if-not-is_open.false) c.rest_of-rest.ensures c.in_err-expr.ensures.err)

pub read_unary-returns-then-not-is_close-clause-err : goal.read_unary-returns-then-not-is_close-clause-err
read_unary-returns-then-not-is_close-clause-err t c =
    stops_unclosed _ _ _ _ _ (sym (ap (operand_of c.args.names.now) c.front-kind.ensures) ∙ c.in_default.ensures) (c.in_default-unary_of.ensures ∙ ap unary_of c.front-kind.ensures) (sym (ap is_open c.front-kind.ensures) ∙ sym c.is_open.ensures ∙ c.if-not-is_open.false) c.rest_of-rest.ensures c.in_ok-expr.ensures.ok (sym (ap is_close c.front.ensures) ∙ sym c.is_close.ensures ∙ c.if-not-is_close.true)

pub read_unary-returns-clause-ok : goal.read_unary-returns-clause-ok
read_unary-returns-clause-ok t c =
    reads_parens _ _ _ _ _ _ (sym (ap (operand_of c.args.names.now) c.front-kind.ensures) ∙ c.in_default.ensures) (c.in_default-unary_of.ensures ∙ ap unary_of c.front-kind.ensures) (sym (ap is_open c.front-kind.ensures) ∙ sym c.is_open.ensures ∙ c.if-not-is_open.false) c.rest_of-rest.ensures c.in_ok-expr.ensures.ok (sym (ap is_close c.front.ensures) ∙ sym c.is_close.ensures ∙ c.if-not-is_close.false) c.rest_of.ensures
