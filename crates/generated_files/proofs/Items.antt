-- What holds of each item of a list.
use Rattle.std.proofs.Common.{List, [], ◌∷◌, refl, arith}
use Rattle.std.specs.Prelude.{All, Contains}
use Rattle.std.specs.List.{flat_map, AllZip}
use Rattle.std.proofs.lemmas.List.Elements.{All-nil, All-cons, All-append, All-head, All-tail}
use Rattle.generated_files.proofs.Lists.{later_member}

pub one_item : {A : Type 0} (P : A → Type 0) (x : A) → P x → All P (x ∷ [])
one_item P x h = All-cons P x [] h (All-nil P)

-- what holds in each part holds in the whole
pub all_parts : {A B : Type 0} (P : B → Type 0) (g : A → List B) (xs : List A) → ((x : A) → Contains xs x → All P (g x)) → All P (flat_map g xs)
all_parts P g [] h = All-nil P
all_parts P g (x ∷ xs) h = All-append P (g x) (flat_map g xs) (h x (0, omega arith, refl)) (all_parts P g xs (λ y m. h y (later_member xs x y m)))

-- the partners of items that have a property
pub all_partners : {A B : Type 0} (R : A → B → Type 0) (P : A → Type 0) (Q : B → Type 0) → ((x : A) (y : B) → P x → R x y → Q y) → (xs : List A) (ys : List B) → All P xs → AllZip R xs ys → All Q ys
all_partners R P Q h [] [] a z = All-nil Q
all_partners R P Q h [] (y ∷ ys) a z = absurd z
all_partners R P Q h (x ∷ xs) [] a z = absurd z
all_partners R P Q h (x ∷ xs) (y ∷ ys) a z = All-cons Q y ys (h x y (All-head P x xs a) z.0) (all_partners R P Q h xs ys (All-tail P x xs a) z.1)
