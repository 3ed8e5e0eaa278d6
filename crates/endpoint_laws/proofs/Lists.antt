-- Lists of faults that are empty.
use Rattle.std.proofs.Common.{◌≡◌, ◌==◌, ℕ, Bool, true, false, not, List, [], ◌∷◌, ◌++◌, refl, ap, ◌∙◌, arith}
use Rattle.std.specs.Prelude.{All}
use Rattle.std.specs.List.{flat_map}
use Rattle.std.proofs.lemmas.List.Elements.{All-nil, All-cons, All-head, All-tail}
use Rattle.std.proofs.lemmas.Bool.Decides.{nat_tests}
use Rattle.chor_base.specs.declared.rule.Place.{Place}
use Rattle.endpoint_names.specs.Faults.{fault_at}

pub nothing_of_two : {X : Type 0} (xs ys : List X) → xs ++ ys ≡ [] → (xs ≡ []) × (ys ≡ [])
nothing_of_two [] ys h = (refl, h)
nothing_of_two (x ∷ xs) ys h = absurd cc

pub nothing_of_all : {X Y : Type 0} (f : X → List Y) (xs : List X) → flat_map f xs ≡ [] → All (λ x. f x ≡ []) xs
nothing_of_all f [] h = All-nil (λ x. f x ≡ [])
nothing_of_all f (x ∷ xs) h = let two = nothing_of_two (f x) (flat_map f xs) h in All-cons (λ y. f y ≡ []) x xs two.0 (nothing_of_all f xs two.1)

pub no_fault : (b : Bool) (p : Place) → fault_at b p ≡ [] → b ≡ false
no_fault false p h = refl
no_fault true p h = absurd cc

pub is_so : (b : Bool) → not b ≡ false → b ≡ true
is_so true h = refl
is_so false h = absurd cc

-- ---- back

pub two_nothings : {X : Type 0} (xs ys : List X) → xs ≡ [] → ys ≡ [] → xs ++ ys ≡ []
two_nothings xs ys h g = ap (λ l. l ++ ys) h ∙ g

pub all_nothings : {X Y : Type 0} (f : X → List Y) (xs : List X) → All (λ x. f x ≡ []) xs → flat_map f xs ≡ []
all_nothings f [] h = refl
all_nothings f (x ∷ xs) h = two_nothings (f x) (flat_map f xs) (All-head (λ y. f y ≡ []) x xs h) (all_nothings f xs (All-tail (λ y. f y ≡ []) x xs h))

pub faultless : (b : Bool) (p : Place) → b ≡ false → fault_at b p ≡ []
faultless b p h = ap (λ c. fault_at c p) h

pub faultless_so : (b : Bool) (p : Place) → b ≡ true → fault_at (not b) p ≡ []
faultless_so b p h = ap (λ c. fault_at (not c) p) h

pub count_same : (m n : ℕ) → m ≡ n → (m == n) ≡ true
count_same m n h = grind (arith, nat_tests)
