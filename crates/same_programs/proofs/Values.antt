-- The values of expressions that are written alike.
use Rattle.std.proofs.Common.{◌≡◌, ℕ, ◌==◌, ◌&&◌, ◌||◌, not, Bool, refl, ap, subst, Option, Some, None, ℤ}
use Rattle.std.specs.Prelude.{unwrap_or, pos, ◌+ℤ◌, ◌-ℤ◌, ◌*ℤ◌, int_lt}
use Rattle.chor_base.specs.declared.names.NameId.{NameId}
use Rattle.chor_base.specs.declared.value.Value.{Value}
use Rattle.chor_base.specs.declared.value.Value.TheVariants.{Int, Bool as Truth}
use Rattle.chor_base.specs.declared.expr.UnOp.{UnOp}
use Rattle.chor_base.specs.declared.expr.UnOp.TheVariants.{Neg, Not}
use Rattle.chor_base.specs.declared.expr.BinOp.{BinOp}
use Rattle.chor_base.specs.declared.expr.BinOp.TheVariants.{Add, Sub, Mul, Div, Eq, Ne, Lt, Le, And, Or}
use Rattle.chor_base.specs.Expr.{Term, held, number_of, truth_of, is_same, divided, unary, binary, value_of}
use Rattle.chor_base.specs.NameMap.{Variables}
use Rattle.same_programs.specs.Words.{BothOrNeither}
use Rattle.same_programs.specs.Codes as same
use Rattle.same_programs.specs.Codes.{SameValue, SameTerm, number, truth, text, part}
use Rattle.same_programs.proofs.Tests.{TellsNames, TellsTexts}
use Rattle.same_programs.proofs.Maps.{SameMaps}

module _ (N : NameId → NameId → Type 0) (T : ℕ → ℕ → Type 0) where
  pub numbers_same : {v w : Value} → SameValue N T v w → number_of v ≡ number_of w
  numbers_same number = refl
  numbers_same truth = refl
  numbers_same (text t) = refl
  numbers_same (part n) = refl

  pub truths_same : {v w : Value} → SameValue N T v w → truth_of v ≡ truth_of w
  truths_same number = refl
  truths_same truth = refl
  truths_same (text t) = refl
  truths_same (part n) = refl

  pub number_at : (y z : ℤ) → y ≡ z → SameValue N T (Int y) (Int z)
  number_at y z e = subst (λ (u : ℤ). SameValue N T (Int y) (Int u)) e number

  pub truth_at : (b c : Bool) → b ≡ c → SameValue N T (Truth b) (Truth c)
  truth_at b c e = subst (λ (u : Bool). SameValue N T (Truth b) (Truth u)) e truth

  module _ (names : TellsNames N) (texts : TellsTexts T) where
    tests_same : {v w x y : Value} → SameValue N T v w → SameValue N T x y → is_same v x ≡ is_same w y
    tests_same number number = refl
    tests_same number truth = refl
    tests_same number (text t) = refl
    tests_same number (part n) = refl
    tests_same truth number = refl
    tests_same truth truth = refl
    tests_same truth (text t) = refl
    tests_same truth (part n) = refl
    tests_same (text t) number = refl
    tests_same (text t) truth = refl
    tests_same (text t) (text u) = texts _ _ _ _ t u
    tests_same (text t) (part n) = refl
    tests_same (part n) number = refl
    tests_same (part n) truth = refl
    tests_same (part n) (text t) = refl
    tests_same (part {s = s} n) (part {s = t} m) = ap (λ b. (s == t) && b) (names _ _ _ _ n m)

    unary_same : (o : UnOp) {v w : Value} → SameValue N T v w → SameValue N T (unary o v) (unary o w)
    unary_same Neg h = number_at _ _ (ap (λ z. held (pos 0 -ℤ z)) (numbers_same h))
    unary_same Not h = truth_at _ _ (ap not (truths_same h))

    two : {A : Type 0} (f : ℤ → ℤ → A) (a b c d : ℤ) → a ≡ b → c ≡ d → f a c ≡ f b d
    two f a b c d e g = λ i. f (e i) (g i)

    both : (f : Bool → Bool → Bool) (a b c d : Bool) → a ≡ b → c ≡ d → f a c ≡ f b d
    both f a b c d e g = λ i. f (e i) (g i)

    binary_same : (o : BinOp) {v w x y : Value} → SameValue N T v w → SameValue N T x y → SameValue N T (binary o v x) (binary o w y)
    binary_same Add h k = number_at _ _ (two (λ a b. held (a +ℤ b)) _ _ _ _ (numbers_same h) (numbers_same k))
    binary_same Sub h k = number_at _ _ (two (λ a b. held (a -ℤ b)) _ _ _ _ (numbers_same h) (numbers_same k))
    binary_same Mul h k = number_at _ _ (two (λ a b. held (a *ℤ b)) _ _ _ _ (numbers_same h) (numbers_same k))
    binary_same Div h k = number_at _ _ (two divided _ _ _ _ (numbers_same h) (numbers_same k))
    binary_same Eq h k = truth_at _ _ (tests_same h k)
    binary_same Ne h k = truth_at _ _ (ap not (tests_same h k))
    binary_same Lt h k = truth_at _ _ (two int_lt _ _ _ _ (numbers_same h) (numbers_same k))
    binary_same Le h k = truth_at _ _ (two (λ a b. not (int_lt b a)) _ _ _ _ (numbers_same h) (numbers_same k))
    binary_same And h k = truth_at _ _ (both (λ a b. a && b) _ _ _ _ (truths_same h) (truths_same k))
    binary_same Or h k = truth_at _ _ (both (λ a b. a || b) _ _ _ _ (truths_same h) (truths_same k))

    or_zero : (o o' : Option Value) → BothOrNeither (SameValue N T) o o' → SameValue N T (unwrap_or o (Int (pos 0))) (unwrap_or o' (Int (pos 0)))
    or_zero None None h = number
    or_zero None (Some w) h = absurd h
    or_zero (Some v) None h = absurd h
    or_zero (Some v) (Some w) h = h

    pub value_same : {t u : Term} → SameTerm N T t u → (vars vars' : Variables) → SameMaps N (SameValue N T) vars vars' → SameValue N T (value_of t vars) (value_of u vars')
    value_same (same.constant h) vars vars' m = h
    value_same (same.variable n) vars vars' m = or_zero _ _ (m _ _ n)
    value_same (same.unary {o = o} h) vars vars' m = unary_same o (value_same h vars vars' m)
    value_same (same.binary {o = o} h k) vars vars' m = binary_same o (value_same h vars vars' m) (value_same k vars vars' m)
