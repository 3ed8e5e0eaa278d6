use Rattle.std.proofs.Common.{arith}
use Rattle.chor_base.specs.Expr.{term_of}
use Rattle.chor_base.proofs.Lists.{mapped_more}
use Rattle.chor_base.proofs.expr.List+Expr.copy.Goals as goal

pub loop-expr-preserved : goal.loop-expr-preserved
loop-expr-preserved c =
    mapped_more term_of c.as_slice-expr-items.result.now c.loop-expr.list c.push.new.self c.expr-item.result c.in_ok-copy.field-0 c.loop-expr.expr-index (omega arith) c.expr-item.is c.in_ok-copy.ensures c.loop-expr.invariant c.in_ok-push.ensures.ok
