-- An expression that has a sort has no endpoint in it.
use Rattle.std.proofs.Common.{◌≡◌, refl, None}
use Rattle.std.specs.Prelude.{Result, Ok, Err}
use Rattle.chor_base.specs.declared.expr.UnOp.{UnOp}
use Rattle.chor_base.specs.declared.expr.BinOp.{BinOp}
use Rattle.chor_base.specs.declared.rule.Rule.{Rule}
use Rattle.chor_base.specs.declared.rule.Rule.TheVariants.{T3}
use Rattle.chor_base.specs.declared.value.Sort.{Sort}
use Rattle.chor_base.specs.declared.value.Value.{Value}
use Rattle.chor_base.specs.declared.value.Value.TheVariants.{Int, Bool as Truth, Text, Part as Endpoint}
use Rattle.chor_base.specs.Expr.{Term, Constant, Variable, Unary, Binary}
use Rattle.chor_base.specs.Sorts.{Sorts, sort_of, sort_of_value, sort_of_unary, sort_of_binary, or_rule}
use Rattle.well_formed.specs.WellFormed.{IsPlain, IsPlainTerm}
use Rattle.typing_rules.specs.Checks.{has_sort}
use Rattle.typed_sources.proofs.Checked.{has_it}

plain_value : (v : Value) (s : Sort) → or_rule (sort_of_value v) T3 ≡ Ok s → IsPlain v
plain_value (Int z) s h = tt
plain_value (Truth b) s h = tt
plain_value (Text t) s h = tt
plain_value (Endpoint k r) s h = cc

under : (o : UnOp) (t : Result Sort Rule) (s : Sort) → sort_of_unary o t ≡ Ok s → (u : Sort) × (t ≡ Ok u)
under o (Ok u) s h = (u, refl)
under o (Err r) s h = absurd cc

under_both : (o : BinOp) (t u : Result Sort Rule) (s : Sort) → sort_of_binary o t u ≡ Ok s → ((v : Sort) × (t ≡ Ok v)) × ((v : Sort) × (u ≡ Ok v))
under_both o (Ok t) (Ok u) s h = ((t, refl), (u, refl))
under_both o (Ok t) (Err r) s h = absurd cc
under_both o (Err r) u s h = absurd cc

plain_term : (x : Term) (m : Sorts) (s : Sort) → sort_of x m ≡ Ok s → IsPlainTerm x
plain_term (Constant v) m s h = plain_value v s h
plain_term (Variable x) m s h = tt
plain_term (Unary o x) m s h = let w = under o (sort_of x m) s h in plain_term x m w.0 w.1
plain_term (Binary o x y) m s h = let w = under_both o (sort_of x m) (sort_of y m) s h in (plain_term x m w.0.0 w.0.1, plain_term y m w.1.0 w.1.1)

pub plain_checked : (x : Term) (m : Sorts) → has_sort (sort_of x m) ≡ None → IsPlainTerm x
plain_checked x m h = let w = has_it (sort_of x m) h in plain_term x m w.0 w.1
