-- The canonical text of an expression: a space on each side of an operator of two operands, none at one of one, and the
-- least parentheses (this project's own).
use Rattle.std.specs.Prelude.{ℕ, suc, Bool, true, false, ◌==◌, List, [], ◌++◌, nat_lt, if◌then◌else◌, codes}
use Rattle.std.specs.Fmt.{signed_decimal}
use Rattle.chor_base.specs.declared.value.Value.{Value}
use Rattle.chor_base.specs.declared.value.Value.TheVariants.{Int, Bool as Truth, Text, Part}
use Rattle.chor_base.specs.declared.expr.UnOp.{UnOp}
use Rattle.chor_base.specs.declared.expr.UnOp.TheVariants as unop
use Rattle.chor_base.specs.declared.expr.BinOp.{BinOp}
use Rattle.chor_base.specs.declared.expr.BinOp.TheVariants as binop
use Rattle.chor_base.specs.Expr.{Term, Constant, Variable, Unary, Binary}
use Rattle.chor_base.specs.Writing.{name_in, literal_in, truth_text}
use Rattle.chor_lexer.specs.declared.mark.Mark.{Mark}
use Rattle.chor_lexer.specs.declared.mark.Mark.TheVariants as mark
use Rattle.chor_lexer.specs.Mark.{spelling}

-- ---- operators

-- the mark of an operator with one operand
abbrev pub unary_mark : UnOp → Mark
unary_mark unop.Neg = mark.Minus
unary_mark unop.Not = mark.Not

-- the mark of an operator with two operands
abbrev pub binary_mark : BinOp → Mark
binary_mark binop.Add = mark.Plus
binary_mark binop.Sub = mark.Minus
binary_mark binop.Mul = mark.Star
binary_mark binop.Div = mark.Slash
binary_mark binop.Eq = mark.Equal
binary_mark binop.Ne = mark.NotEqual
binary_mark binop.Lt = mark.Less
binary_mark binop.Le = mark.LessEqual
binary_mark binop.And = mark.And
binary_mark binop.Or = mark.Or

-- how strongly an operator binds: alternatives least, then conjunctions, comparisons, sums, and products most
abbrev pub strength : BinOp → ℕ
strength binop.Or = 1
strength binop.And = 2
strength binop.Eq = 3
strength binop.Ne = 3
strength binop.Lt = 3
strength binop.Le = 3
strength binop.Add = 4
strength binop.Sub = 4
strength binop.Mul = 5
strength binop.Div = 5

-- an expression with an operator of two operands is as strong as the operator, any other one is stronger than that
abbrev pub strength_of : Term → ℕ
strength_of (Constant v) = 6
strength_of (Variable x) = 6
strength_of (Unary op e) = 6
strength_of (Binary op e f) = strength op

-- the least strength of a left operand that has no parentheses: operators group to the left, but no comparison has a
-- comparison as its operand
abbrev pub left_needs : BinOp → ℕ
left_needs op = if strength op == 3 then 4 else strength op

-- the least strength of a right operand that has no parentheses
abbrev pub right_needs : BinOp → ℕ
right_needs op = suc (strength op)

-- ---- text

-- a text in parentheses where they are needed
abbrev pub enclosed : Bool → List ℕ → List ℕ
enclosed true text = (codes "(" ++ text) ++ codes ")"
enclosed false text = text

-- in parentheses where the operand is weaker than is needed
abbrev pub operand_text : ℕ → ℕ → List ℕ → List ℕ
operand_text needed strong text = enclosed (nat_lt strong needed) text

-- an endpoint stands in no source, and adds no bytes
abbrev pub constant_text : List (List ℕ) → Value → List ℕ
constant_text texts (Int z) = signed_decimal z
constant_text texts (Truth b) = truth_text b
constant_text texts (Text t) = literal_in texts t
constant_text texts (Part s r) = []

-- The canonical text of an expression, with these tables of names and texts
abbrev pub expr_text : List (List ℕ) → List (List ℕ) → Term → List ℕ
expr_text names texts (Constant v) = constant_text texts v
expr_text names texts (Variable x) = name_in names x
expr_text names texts (Unary op e) = spelling (unary_mark op) ++ operand_text 6 (strength_of e) (expr_text names texts e)
expr_text names texts (Binary op e f) =
    operand_text (left_needs op) (strength_of e) (expr_text names texts e)
    ++ (codes " " ++ spelling (binary_mark op) ++ codes " ")
    ++ operand_text (right_needs op) (strength_of f) (expr_text names texts f)

-- the same as an operand where so much strength is needed
abbrev pub needed_text : List (List ℕ) → List (List ℕ) → ℕ → Term → List ℕ
needed_text names texts needed e = operand_text needed (strength_of e) (expr_text names texts e)
