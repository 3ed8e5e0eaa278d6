-- The value of an expression is of its sort.
use Rattle.std.proofs.Common.{◌≡◌, ap, ◌∙◌, Some, None, Option, Bool, true, false, pos, if◌then◌else◌}
use Rattle.std.specs.Prelude.{Result, Ok, Err, unwrap_or}
use Rattle.std.specs.FinMap as fin
use Rattle.chor_base.specs.declared.names.NameId.{NameId}
use Rattle.chor_base.specs.declared.rule.Rule.{Rule}
use Rattle.chor_base.specs.declared.rule.Rule.TheVariants.{T3, T8}
use Rattle.chor_base.specs.declared.value.Sort.{Sort}
use Rattle.chor_base.specs.declared.value.Value.{Value}
use Rattle.chor_base.specs.declared.value.Value.TheVariants.{Int}
use Rattle.chor_base.specs.declared.expr.UnOp.{UnOp}
use Rattle.chor_base.specs.declared.expr.UnOp.TheVariants.{Neg, Not}
use Rattle.chor_base.specs.declared.expr.BinOp.{BinOp}
use Rattle.chor_base.specs.declared.expr.BinOp.TheVariants.{Add, Sub, Mul, Div, Eq, Ne, Lt, Le, And, Or}
use Rattle.chor_base.specs.Expr.{Term, Constant, Variable, Unary, Binary, value_of, unary, binary}
use Rattle.chor_base.specs.NameMap.{Variables}
use Rattle.chor_base.specs.Sorts.{Sorts, sort_of, sort_of_value, or_rule, takes, take_both, same_sort, sort_of_unary, sort_of_binary, sort_of_operator}
use Rattle.chor_base.specs.declared.value.Sort.TheVariants as sort

-- the variables have values of their sorts
abbrev pub Agrees : Variables → Sorts → Type 0
Agrees m k = (x : NameId) (s : Sort) → k x ≡ Some s → (v : Value) × (fin.get m x.0 ≡ Some v) × (sort_of_value v ≡ Some s)

made_by : (w m s t : Sort) → takes w m s ≡ Ok t → m ≡ t
made_by w m s t h = go (same_sort w s) h
  where
    go : (b : Bool) → (if b then Ok m else Err T3) ≡ Ok t → m ≡ t
    go true i = cc
    go false i = absurd cc

made_by_both : (w m s u t : Sort) → take_both w m s u ≡ Ok t → m ≡ t
made_by_both w m s u t h = go (same_sort w s) h
  where
    go : (b : Bool) → (if b then takes w m u else Err T3) ≡ Ok t → m ≡ t
    go true i = made_by w m u t i
    go false i = absurd cc

of_unary : (o : UnOp) (r : Result Sort Rule) (v : Value) (t : Sort) → sort_of_unary o r ≡ Ok t → sort_of_value (unary o v) ≡ Some t
of_unary o (Err r) v t h = absurd cc
of_unary Neg (Ok s) v t h = ap Some (made_by sort.Int sort.Int s t h)
of_unary Not (Ok s) v t h = ap Some (made_by sort.Bool sort.Bool s t h)

of_operator : (o : BinOp) (s u : Sort) (v w : Value) (t : Sort) → sort_of_operator o s u ≡ Ok t → sort_of_value (binary o v w) ≡ Some t
of_operator Add s u v w t h = ap Some (made_by_both sort.Int sort.Int s u t h)
of_operator Sub s u v w t h = ap Some (made_by_both sort.Int sort.Int s u t h)
of_operator Mul s u v w t h = ap Some (made_by_both sort.Int sort.Int s u t h)
of_operator Div s u v w t h = ap Some (made_by_both sort.Int sort.Int s u t h)
of_operator Eq s u v w t h = ap Some (made_by s sort.Bool u t h)
of_operator Ne s u v w t h = ap Some (made_by s sort.Bool u t h)
of_operator Lt s u v w t h = ap Some (made_by_both sort.Int sort.Bool s u t h)
of_operator Le s u v w t h = ap Some (made_by_both sort.Int sort.Bool s u t h)
of_operator And s u v w t h = ap Some (made_by_both sort.Bool sort.Bool s u t h)
of_operator Or s u v w t h = ap Some (made_by_both sort.Bool sort.Bool s u t h)

of_binary : (o : BinOp) (a b : Result Sort Rule) (v w : Value) (t : Sort) → sort_of_binary o a b ≡ Ok t → sort_of_value (binary o v w) ≡ Some t
of_binary o (Err r) b v w t h = absurd cc
of_binary o (Ok s) (Err r) v w t h = absurd cc
of_binary o (Ok s) (Ok u) v w t h = of_operator o s u v w t h

constant : (o : Option Sort) (t : Sort) → or_rule o T3 ≡ Ok t → o ≡ Some t
constant None t h = absurd cc
constant (Some s) t h = ap Some cc

variable : (o : Option Sort) (t : Sort) → or_rule o T8 ≡ Ok t → o ≡ Some t
variable None t h = absurd cc
variable (Some s) t h = ap Some cc

pub value_sorted : (m : Variables) (k : Sorts) → Agrees m k → (e : Term) (t : Sort) → sort_of e k ≡ Ok t → sort_of_value (value_of e m) ≡ Some t
value_sorted m k a (Constant v) t h = constant (sort_of_value v) t h
value_sorted m k a (Variable x) t h = let r = a x t (variable (k x) t h) in ap (λ o. sort_of_value (unwrap_or o (Int (pos 0)))) r.1 ∙ r.2
value_sorted m k a (Unary o e) t h = of_unary o (sort_of e k) (value_of e m) t h
value_sorted m k a (Binary o e f) t h = of_binary o (sort_of e k) (sort_of f k) (value_of e m) (value_of f m) t h
