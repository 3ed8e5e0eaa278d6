-- Each expression lies somewhere in memory.
use Rattle.std.proofs.Common.{◌≡◌, refl, Box, Global}
use Rattle.std.specs.Ptr.{null_ptr}
use Rattle.chor_base.specs.Expr.{Term, Constant, Variable, Unary, Binary, term_of}
use Rattle.chor_base.specs.declared.expr.Expr.{Expr}
use Rattle.chor_base.specs.declared.expr.Expr.TheVariants.{Lit, Var, Un', Bin'}

-- where an operand lies is of no account
somewhere : Box (Unit {0}) Global
somewhere = record { ptr = null_ptr; alloc = record { memory = record { seal = tt } }; value = tt }

pub expr_of : Term → Expr
expr_of (Constant v) = Lit v
expr_of (Variable x) = Var x
expr_of (Unary op e) = Un' op somewhere (expr_of e)
expr_of (Binary op e f) = Bin' op somewhere (expr_of e) somewhere (expr_of f)

pub same_term : (x : Term) → term_of (expr_of x) ≡ x
unfolding expr_of
same_term (Constant v) = refl
same_term (Variable x) = refl
same_term (Unary op e) = λ i. Unary op (same_term e i)
same_term (Binary op e f) = λ i. Binary op (same_term e i) (same_term f i)
