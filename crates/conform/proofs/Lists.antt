-- Lists whose items stand for each other, and lists of events with one more.
use Rattle.std.proofs.Common.{◌≡◌, ℕ, zero, suc, ◌<◌, List, [], ◌∷◌, ◌++◌, length, Some, refl, sym, ap, ◌∙◌, subst, arith}
use Rattle.std.specs.Prelude.{slice_get}
use Rattle.conform.specs.Progress.{OneByOne}

pub some_same : {A : Type 0} (a b : A) → Some a ≡ Some b → a ≡ b
some_same a b h = cc

-- what stands for an item
pub record Other {A B : Type 0} (R : A → B → Type 0) (bs : List B) (i : ℕ) (a : A) : Type 0 where
  pub item : B
  pub at : slice_get bs i ≡ Some item
  pub stands : R a item

pub other : {A B : Type 0} (R : A → B → Type 0) (as' : List A) (bs : List B) (i : ℕ) (a : A) → OneByOne R as' bs → slice_get as' i ≡ Some a → Other R bs i a
other R [] [] i a h at = absurd cc
other R [] (b ∷ bs) i a h at = absurd h
other R (x ∷ xs) [] i a h at = absurd h
other {A = A} {B = B} R (x ∷ xs) (b ∷ bs) zero a h at = let is : x ≡ a = cc in record { item = b; at = refl; stands = subst (λ (z : A). R z b) is h.0 }
other R (x ∷ xs) (b ∷ bs) (suc i) a h at = let w = other R xs bs i a h.1 at in record { item = w.item; at = w.at; stands = w.stands }

pub stands_for : {A B : Type 0} (R : A → B → Type 0) (as' : List A) (bs : List B) (i : ℕ) (a : A) (b : B) → OneByOne R as' bs → slice_get as' i ≡ Some a → slice_get bs i ≡ Some b → R a b
stands_for {A = A} {B = B} R as' bs i a b h at there =
    let w = other R as' bs i a h at in
    let same : w.item ≡ b = some_same w.item b (sym w.at ∙ there) in
    subst (R a) same w.stands

pub as_many : {A B : Type 0} (R : A → B → Type 0) (as' : List A) (bs : List B) → OneByOne R as' bs → length as' ≡ length bs
as_many R [] [] h = refl
as_many R [] (b ∷ bs) h = absurd h
as_many R (x ∷ xs) [] h = absurd h
as_many R (x ∷ xs) (b ∷ bs) h = ap suc (as_many R xs bs h.1)

pub one_push : {A B : Type 0} (R : A → B → Type 0) (as' : List A) (bs : List B) (a : A) (b : B) → OneByOne R as' bs → R a b → OneByOne R (as' ++ a ∷ []) (bs ++ b ∷ [])
one_push R [] [] a b h r = (r, tt)
one_push R [] (y ∷ ys) a b h r = absurd h
one_push R (x ∷ xs) [] a b h r = absurd h
one_push R (x ∷ xs) (y ∷ ys) a b h r = (h.0, one_push R xs ys a b h.1 r)

-- there is an item at each place
pub item_at : {A : Type 0} (xs : List A) (i : ℕ) → i < length xs → (x : A) × (slice_get xs i ≡ Some x)
item_at [] i h = absurd (omega (arith, h))
item_at (x ∷ xs) zero h = (x, refl)
item_at (x ∷ xs) (suc i) h = item_at xs i (omega (arith, h))

-- one of these, which isn't the last, or the last
pub data InOrLast {A : Type 0} (xs : List A) (y : A) (before : List A) (x : A) (rest : List A) : Type 0 where
  within : (more : List A) → xs ≡ before ++ x ∷ more → InOrLast xs y before x rest
  last : xs ≡ before → y ≡ x → InOrLast xs y before x rest

pub in_or_last : {A : Type 0} (xs : List A) (y : A) (before : List A) (x : A) (rest : List A) → xs ++ y ∷ [] ≡ before ++ x ∷ rest → InOrLast xs y before x rest
in_or_last [] y [] x rest h = let is : y ≡ x = cc in last refl is
in_or_last [] y (b ∷ []) x rest h = absurd (let none : [] ≡ x ∷ rest = cc in cc)
in_or_last [] y (b ∷ c ∷ before) x rest h = absurd (let none : [] ≡ c ∷ (before ++ x ∷ rest) = cc in cc)
in_or_last (z ∷ zs) y [] x rest h = let is : z ≡ x = cc in within zs (ap (λ l. l ∷ zs) is)
in_or_last (z ∷ zs) y (b ∷ before) x rest h =
    let is : z ≡ b = cc in
    let more : zs ++ y ∷ [] ≡ before ++ x ∷ rest = cc in
    go is (in_or_last zs y before x rest more)
  where
    go : z ≡ b → InOrLast zs y before x rest → InOrLast (z ∷ zs) y (b ∷ before) x rest
    go is (within more e) = within more (ap (λ l. z ∷ l) e ∙ ap (λ w. w ∷ (before ++ x ∷ more)) is)
    go is (last e same) = last (ap (λ l. z ∷ l) e ∙ ap (λ w. w ∷ before) is) same
