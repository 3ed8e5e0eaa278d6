use Rattle.std.proofs.Common.{◌≡◌, take, map}
use Rattle.chor_base.specs.Expr.{term_of}
use Rattle.chor_base.proofs.expr.List+Expr.copy.Given as goal

abbrev pub invariant-loop-expr : goal.invariant-loop-expr
invariant-loop-expr l = map term_of l.list ≡ map term_of (take l.expr-index l.expr-items)
