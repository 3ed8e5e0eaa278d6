-- Values of expressions are of their sizes, and their texts are there.
use Rattle.std.proofs.Common.{◌≡◌, ◌<◌, ◌&&◌, ℕ, ℤ, pos, negsuc, Bool, true, false, [], ◌∷◌, length, Option, Some, None, refl, sym, subst, arith, if◌then◌else◌}
use Rattle.std.specs.Prelude.{◌+ℤ◌, ◌-ℤ◌, ◌*ℤ◌, ◌≤ℤ◌, ◌==◌, int_div, int_lt, unsigned_abs, unwrap_or}
use Rattle.std.specs.FinMap as fin
use borrow.Author.Differences.{ints}
use Rattle.std.proofs.lemmas.Bool.{ltb-true, and_parts}
use Rattle.chor_base.specs.declared.names.NameId.{NameId}
use Rattle.chor_base.specs.declared.value.Value.{Value}
use Rattle.chor_base.specs.declared.value.Value.TheVariants.{Int, Bool as Truth, Text, Part as Endpoint}
use Rattle.chor_base.specs.declared.expr.UnOp.TheVariants.{Neg, Not}
use Rattle.chor_base.specs.declared.expr.BinOp.TheVariants.{Add, Sub, Mul, Div, Eq, Ne, Lt, Le, And, Or}
use Rattle.chor_base.specs.declared.meaning.HostOp.{HostOp}
use Rattle.chor_base.specs.declared.meaning.HostOp.TheVariants.{Min, Max, Gap}
use Rattle.chor_base.specs.declared.meaning.Meaning.{Meaning}
use Rattle.chor_base.specs.declared.meaning.Meaning.TheVariants.{Exact, Within}
use Rattle.chor_base.specs.Expr.{Term, Constant, Variable, Unary, Binary, held, number_of, value_of, int_same, divided}
use Rattle.chor_base.specs.Meaning.{Hosts, operated, IsAllowed, meaning_named, MayAnswer}
use Rattle.chor_base.specs.NameMap.{Variables}
use Rattle.endpoint_code.specs.Kept.{has_name, has_text, term_there}
use Rattle.transcript.specs.Text.{Words}
use Rattle.event_reader.specs.Known.{IsInt, HasName}
use Rattle.projected_programs.specs.Sizes.{IsTermSized, IsMeaningSized, AreMeaningsSized}

-- ---- numbers

held_int : (z : ℤ) → IsInt (held z)
held_int (pos n) = omega arith
held_int (negsuc n) = omega arith

divided_int : (y z : ℤ) → IsInt (divided y z)
divided_int y z = go (int_same z (pos 0))
  where
    go : (b : Bool) → IsInt (if b then pos 0 else held (int_div y z))
    go true = omega arith
    go false = held_int (int_div y z)

-- one of two numbers
one_int : (b : Bool) (y z : ℤ) → IsInt y → IsInt z → IsInt (if b then y else z)
one_int true y z h k = h
one_int false y z h k = k

operated_int : (op : HostOp) (a b : ℤ) → IsInt a → IsInt b → IsInt (operated op a b)
operated_int Min a b h k = one_int (int_lt b a) b a k h
operated_int Max a b h k = one_int (int_lt b a) a b h k
operated_int Gap a b h k = held_int (pos (unsigned_abs (a -ℤ b)))

between_int : (low v high : ℤ) → IsInt low → IsInt high → low ≤ℤ v → v ≤ℤ high → IsInt v
between_int low (pos v) (pos h) a b c d = omega (arith, ints)
between_int low (pos v) (negsuc h) a b c d = omega (arith, ints)
between_int (pos l) (negsuc v) high a b c d = omega (arith, ints)
between_int (negsuc l) (negsuc v) high a b c d = omega (arith, ints)

allowed_int : (m : Meaning) (a b v : ℤ) → IsMeaningSized m → IsInt a → IsInt b → IsAllowed m a b v → IsInt v
allowed_int (Exact op) a b v s h k e = subst IsInt (sym e) (operated_int op a b h k)
allowed_int (Within low high) a b v s h k e = between_int low v high s.0 s.1 e.0 e.1

-- the answers of host functions
pub answers_int : (hosts : Hosts) (f : NameId) (a b v : ℤ) → AreMeaningsSized hosts → IsInt a → IsInt b → MayAnswer (meaning_named hosts f) a b v → IsInt v
answers_int [] f a b v s h k m = absurd m
answers_int (g ∷ gs) f a b v s h k m = go (g.0.0 == f.0) (answers_int gs f a b v s.1 h k) m
  where
    go : (c : Bool) → (MayAnswer (meaning_named gs f) a b v → IsInt v) → MayAnswer (if c then Some g.1 else meaning_named gs f) a b v → IsInt v
    go true others m = allowed_int g.1 a b v s.0 h k m
    go false others m = others m

-- ---- what holds in a state where so many sessions have begun

module _ (w : Words) (sid : ℕ) where
  abbrev pub IsFineValue : Value → Type 0
  IsFineValue (Int z) = IsInt z
  IsFineValue (Truth b) = Unit {0}
  IsFineValue (Text t) = t < length w.texts
  IsFineValue (Endpoint s r) = (s < sid) × HasName w r

  abbrev pub AreFineVariables : Variables → Type 0
  AreFineVariables vars = (x : ℕ) (v : Value) → fin.get vars x ≡ Some v → IsFineValue v

  number_int : (v : Value) → IsFineValue v → IsInt (number_of v)
  number_int (Int z) h = h
  number_int (Truth b) h = omega arith
  number_int (Text t) h = omega arith
  number_int (Endpoint s r) h = omega arith

  pub value_fine : (e : Term) (vars : Variables) → term_there (has_name w.names) (has_text w.texts) e ≡ true → IsTermSized e → AreFineVariables vars → IsFineValue (value_of e vars)
  value_fine (Constant (Int z)) vars there sized fine = sized
  value_fine (Constant (Truth b)) vars there sized fine = tt
  value_fine (Constant (Text t)) vars there sized fine = ltb-true t (length w.texts) there
  value_fine (Constant (Endpoint s r)) vars there sized fine = absurd cc
  value_fine (Variable x) vars there sized fine = go (fin.get vars x.0) refl
    where
      go : (o : Option Value) → fin.get vars x.0 ≡ o → IsFineValue (unwrap_or o (Int (pos 0)))
      go None e = omega arith
      go (Some v) e = fine x.0 v e
  value_fine (Unary Neg e) vars there sized fine = held_int (pos 0 -ℤ number_of (value_of e vars))
  value_fine (Unary Not e) vars there sized fine = tt
  value_fine (Binary Add e f) vars there sized fine = held_int (number_of (value_of e vars) +ℤ number_of (value_of f vars))
  value_fine (Binary Sub e f) vars there sized fine = held_int (number_of (value_of e vars) -ℤ number_of (value_of f vars))
  value_fine (Binary Mul e f) vars there sized fine = held_int (number_of (value_of e vars) *ℤ number_of (value_of f vars))
  value_fine (Binary Div e f) vars there sized fine = divided_int (number_of (value_of e vars)) (number_of (value_of f vars))
  value_fine (Binary Eq e f) vars there sized fine = tt
  value_fine (Binary Ne e f) vars there sized fine = tt
  value_fine (Binary Lt e f) vars there sized fine = tt
  value_fine (Binary Le e f) vars there sized fine = tt
  value_fine (Binary And e f) vars there sized fine = tt
  value_fine (Binary Or e f) vars there sized fine = tt

  -- its number, as an argument
  pub argument_int : (e : Term) (vars : Variables) → term_there (has_name w.names) (has_text w.texts) e ≡ true → IsTermSized e → AreFineVariables vars → IsInt (number_of (value_of e vars))
  argument_int e vars there sized fine = number_int (value_of e vars) (value_fine e vars there sized fine)
