-- The events of a causal past, which are among those of the run.
use Rattle.std.proofs.Common.{◌≡◌, ◌<◌, ◌≤◌, ◌+◌, ℕ, zero, suc, List, [], ◌∷◌, ◌++◌, length, length-append, Option, Some, refl, sym, ap, ◌∙◌, subst, arith}
use Rattle.std.specs.List.{AllByRecursion}
use Rattle.std.specs.Prelude.{slice_get}
use Rattle.chor_base.specs.declared.event.Event.{Event}
use Rattle.event_orders.specs.Orders.{IsPermutationBelow, permuted}
use Rattle.event_orders.specs.CausalPast.{BeginsExtension}
use Rattle.event_orders.proofs.Counting.{permuted_at, event_at}
use Rattle.event_orders.proofs.Numbers.{occurs-append, occurs_self, order_below}
use Rattle.event_orders.proofs.Selected.{AllThere}

-- what holds of each event holds of one of them
at_each : (P : Event → Type 0) (h : List Event) (i : ℕ) (x : Event) → AllByRecursion P h → slice_get h i ≡ Some x → P x
at_each P [] i x all at = absurd cc
at_each P (y ∷ h) zero x all at = let same : y ≡ x = cc in subst P same all.0
at_each P (y ∷ h) (suc i) x all at = at_each P h i x all.1 at

there_later : (h : List Event) (i : ℕ) (d : List ℕ) → AllThere h (i ∷ d) → AllThere h d
there_later h i d there j lt = there j (omega (arith, lt))

there_first : (h : List Event) (i : ℕ) (d : List ℕ) → AllThere h (i ∷ d) → i < length h
there_first h i d there = there i (let s = occurs_self i d in omega (arith, s))

-- events that are there are as many as their numbers
pub permuted_length : (h : List Event) (d : List ℕ) → AllThere h d → length (permuted h d) ≡ length d
permuted_length h [] there = refl
permuted_length h (i ∷ d) there =
    let x = event_at h i (there_first h i d there) in
    ap length (permuted_at h i d x.0 x.1) ∙ ap suc (permuted_length h d (there_later h i d there))

pub permuted_each : (P : Event → Type 0) (h : List Event) (d : List ℕ) → AllByRecursion P h → AllThere h d → AllByRecursion P (permuted h d)
permuted_each P h [] all there = tt
permuted_each P h (i ∷ d) all there =
    let x = event_at h i (there_first h i d there) in
    subst (AllByRecursion P) (sym (permuted_at h i d x.0 x.1)) (at_each P h i x.0 all x.1, permuted_each P h d all (there_later h i d there))

-- a permutation of the numbers below n has n numbers
order_length : (n : ℕ) (order : List ℕ) → IsPermutationBelow n order → length order ≡ n
order_length zero order is = ap length is
order_length (suc n) order is =
    let whole : length order ≡ length is.0 + suc (length is.1) = ap length is.2 ∙ length-append is.0 (n ∷ is.1) in
    let less : length is.0 + length is.1 ≡ n = sym (length-append is.0 is.1) ∙ order_length n (is.0 ++ is.1) is.3 in
    omega (arith, whole, less)

-- what comes first in a linear extension is there, and isn't more than all
pub begins_there : (h : List Event) (cap : Option ℕ) (past : List ℕ) → BeginsExtension h cap past → AllThere h past
begins_there h cap past (rest, it) i lt = order_below (length h) (past ++ rest) it.whole i (let a = occurs-append i past rest in omega (arith, a, lt))

pub begins_few : (h : List Event) (cap : Option ℕ) (past : List ℕ) → BeginsExtension h cap past → length past ≤ length h
begins_few h cap past (rest, it) = let a = order_length (length h) (past ++ rest) it.whole in let b = length-append past rest in omega (arith, a, b)
