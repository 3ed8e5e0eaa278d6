-- Tests, lists and numbers, for the other files.
use Rattle.std.proofs.Common.{◌≡◌, ℕ, zero, suc, ◌<◌, ◌==◌, ◌&&◌, Bool, true, false, List, [], ◌∷◌, ◌++◌, length, Some, refl, ap, ◌∙◌, arith}
use Rattle.std.specs.Prelude.{All, Contains, slice_get, nat_lt}
use Rattle.std.proofs.lemmas.Bool.Decides.{nat_tests}
use Rattle.std.proofs.lemmas.List.Elements.{All-head, All-tail, All-nil, All-cons}
use Rattle.chor_base.specs.declared.names.NameId.{NameId}

-- ---- tests

pub both : (a b : Bool) → (a && b) ≡ true → (a ≡ true) × (b ≡ true)
both true true h = (refl, refl)
both true false h = absurd cc
both false b h = absurd cc

pub join : (a b : Bool) → a ≡ true → b ≡ true → (a && b) ≡ true
join a b h k = ap (λ x. x && b) h ∙ k

pub is_below : (a b : ℕ) → nat_lt a b ≡ true → a < b
is_below a b h = grind (arith, nat_tests)

pub below_is : (a b : ℕ) → a < b → nat_lt a b ≡ true
below_is a b h = grind (arith, nat_tests)

pub same_name : (a b : NameId) → (a.0 == b.0) ≡ true → a ≡ b
same_name a b h = let i : a.0 ≡ b.0 = grind (arith, nat_tests, h) in ap (λ n. record { 0 = n }) i

pub is_same : (a b : NameId) → a ≡ b → (a.0 == b.0) ≡ true
is_same a b h = let i : a.0 ≡ b.0 = ap (λ (n : NameId). n.0) h in grind (arith, nat_tests)

-- ---- lists

-- what is in a list is in a longer one, at the same place
pub still_there : {X : Type 0} (xs more : List X) (i : ℕ) (x : X) → slice_get xs i ≡ Some x → slice_get (xs ++ more) i ≡ Some x
still_there [] more i x h = absurd cc
still_there (y ∷ ys) more zero x h = h
still_there (y ∷ ys) more (suc i) x h = still_there ys more i x h

pub at_number : {X : Type 0} (xs : List X) (i : ℕ) → i < length xs → (x : X) × (slice_get xs i ≡ Some x)
at_number [] i l = absurd (omega (arith, l))
at_number (x ∷ xs) zero l = (x, refl)
at_number (x ∷ xs) (suc i) l = at_number xs i (omega (arith, l))

pub first_in : {A : Type 0} (x : A) (xs : List A) → Contains (x ∷ xs) x
first_in x xs = (0, omega arith, refl)

pub later_in : {A : Type 0} (x : A) (xs : List A) (a : A) → Contains xs a → Contains (x ∷ xs) a
later_in x xs a m = (suc m.0, (let l : m.0 < length xs = m.1 in omega (arith, l)), m.2)

pub all_of : {A : Type 0} (P Q : A → Type 0) → ((x : A) → P x → Q x) → (xs : List A) → All P xs → All Q xs
all_of P Q f [] h = All-nil Q
all_of P Q f (x ∷ xs) h = All-cons Q x xs (f x (All-head P x xs h)) (all_of P Q f xs (All-tail P x xs h))
