-- Expressions and their values (this project's own: whole numbers held in 64 bits).
use Rattle.std.specs.Prelude.{Bool, true, false, not, ◌&&◌, ◌||◌, ◌==◌, ℤ, pos, negsuc, ◌+ℤ◌, ◌-ℤ◌, ◌*ℤ◌, int_lt, int_div, unwrap_or, if◌then◌else◌}
use Rattle.std.specs.Int.{saturate_signed, w64}
use Rattle.std.specs.FinMap as fin
use Rattle.chor_base.specs.declared.names.NameId.{NameId}
use Rattle.chor_base.specs.declared.value.Value.{Value}
use Rattle.chor_base.specs.declared.value.Value.TheVariants.{Int, Bool as Truth, Text, Part}
use Rattle.chor_base.specs.declared.expr.UnOp.{UnOp}
use Rattle.chor_base.specs.declared.expr.UnOp.TheVariants.{Neg, Not}
use Rattle.chor_base.specs.declared.expr.BinOp.{BinOp}
use Rattle.chor_base.specs.declared.expr.BinOp.TheVariants.{Add, Sub, Mul, Div, Eq, Ne, Lt, Le, And, Or}
use Rattle.chor_base.specs.declared.expr.Expr.{Expr}
use Rattle.chor_base.specs.declared.expr.Expr.TheVariants.{Lit, Var, Un', Bin'}
use Rattle.chor_base.specs.NameMap.{Variables}

-- an expression, wherever it lies in memory
pub data Term : Type 0 where
  Constant : (v : Value) → Term
  Variable : (x : NameId) → Term
  Unary : (op : UnOp) (operand : Term) → Term
  Binary : (op : BinOp) (left right : Term) → Term

-- the expression that the program's value stands for
abbrev pub term_of : Expr → Term
term_of (Lit v) = Constant v
term_of (Var x) = Variable x
term_of (Un' op p e) = Unary op (term_of e)
term_of (Bin' op p e q f) = Binary op (term_of e) (term_of f)

-- a number held in 64 bits: beyond them it is the least or the greatest that fits
abbrev pub held : ℤ → ℤ
held z = saturate_signed w64 z

-- an operand that should be a number and isn't counts as 0
abbrev pub number_of : Value → ℤ
number_of (Int z) = z
number_of (Truth b) = pos 0
number_of (Text t) = pos 0
number_of (Part s r) = pos 0

-- an operand that should be a truth value and isn't counts as false
abbrev pub truth_of : Value → Bool
truth_of (Int z) = false
truth_of (Truth b) = b
truth_of (Text t) = false
truth_of (Part s r) = false

-- two whole numbers are equal
abbrev pub int_same : ℤ → ℤ → Bool
int_same (pos a) (pos b) = a == b
int_same (negsuc a) (negsuc b) = a == b
int_same (pos a) (negsuc b) = false
int_same (negsuc a) (pos b) = false

-- two truth values are equal
abbrev pub bool_same : Bool → Bool → Bool
bool_same true b = b
bool_same false b = not b

-- values of two kinds are never the same
abbrev pub is_same : Value → Value → Bool
is_same (Int y) (Int z) = int_same y z
is_same (Truth a) (Truth b) = bool_same a b
is_same (Text t) (Text u) = t == u
is_same (Part s r) (Part t q) = (s == t) && (r.0 == q.0)
is_same _ _ = false

-- a quotient rounded toward zero; by 0 it is 0
abbrev pub divided : ℤ → ℤ → ℤ
divided y z = if int_same z (pos 0) then pos 0 else held (int_div y z)

-- the value of an operator with one operand
abbrev pub unary : UnOp → Value → Value
unary Neg v = Int (held (pos 0 -ℤ number_of v))
unary Not v = Truth (not (truth_of v))

-- the value of an operator with two operands
abbrev pub binary : BinOp → Value → Value → Value
binary Add v w = Int (held (number_of v +ℤ number_of w))
binary Sub v w = Int (held (number_of v -ℤ number_of w))
binary Mul v w = Int (held (number_of v *ℤ number_of w))
binary Div v w = Int (divided (number_of v) (number_of w))
binary Eq v w = Truth (is_same v w)
binary Ne v w = Truth (not (is_same v w))
binary Lt v w = Truth (int_lt (number_of v) (number_of w))
binary Le v w = Truth (not (int_lt (number_of w) (number_of v)))
binary And v w = Truth (truth_of v && truth_of w)
binary Or v w = Truth (truth_of v || truth_of w)

-- The value of an expression where the variables are m. A variable that isn't set is 0
abbrev pub value_of : Term → Variables → Value
value_of (Constant v) m = v
value_of (Variable x) m = unwrap_or (fin.get m x.0) (Int (pos 0))
value_of (Unary op e) m = unary op (value_of e m)
value_of (Binary op e f) m = binary op (value_of e m) (value_of f m)
