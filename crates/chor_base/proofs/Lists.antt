-- Lists with one item more.
use Rattle.std.proofs.Common.{◌≡◌, ◌≢◌, arith, ℕ, ◌+◌, ◌<◌, zero, suc, List, [], ◌∷◌, ◌++◌, length, take, get_or, refl, sym, ap, ◌∙◌, Some}
use Rattle.std.specs.Prelude.{map, slice_get, slice_set}
use Rattle.std.proofs.lemmas.List.{map-append, take_more}

-- what stands at a place of a list with one item more
pub data AtEnd {X : Type 0} (xs : List X) (x y : X) (i : ℕ) : Type 0 where
  before : slice_get xs i ≡ Some y → AtEnd xs x y i
  last : i ≡ length xs → y ≡ x → AtEnd xs x y i

pub at_end : {X : Type 0} (xs : List X) (x y : X) (i : ℕ) → slice_get (xs ++ x ∷ []) i ≡ Some y → AtEnd xs x y i
at_end [] x y zero h = last refl cc
at_end [] x y (suc i) h = absurd cc
at_end (z ∷ xs) x y zero h = before h
at_end (z ∷ xs) x y (suc i) h = go (at_end xs x y i h)
  where
    go : AtEnd xs x y i → AtEnd (z ∷ xs) x y (suc i)
    go (before b) = before b
    go (last e s) = last (ap suc e) s

-- the last item
pub slice_get_last : {X : Type 0} (xs : List X) (x : X) → slice_get (xs ++ x ∷ []) (length xs) ≡ Some x
slice_get_last [] x = refl
slice_get_last (y ∷ xs) x = slice_get_last xs x

-- one item more is read and a like one is written
pub mapped_more : {X Y : Type 0} (f : X → Y) (xs old new : List X) (x y : X) (i : ℕ) → i < length xs → x ≡ get_or xs i x → f y ≡ f x → map f old ≡ map f (take i xs) → new ≡ old ++ y ∷ [] → map f new ≡ map f (take (i + 1) xs)
mapped_more f xs old new x y i within at same so_far added =
    ap (map f) added ∙ map-append f old (y ∷ []) ∙ ap (λ r. r ++ f y ∷ []) so_far
    ∙ ap (λ z. map f (take i xs) ++ z ∷ []) (same ∙ ap f at)
    ∙ sym (ap (map f) (take_more xs i x within) ∙ map-append f (take i xs) (get_or xs i x ∷ []))

-- another item is the same after one was set
pub get_set_other : {X : Type 0} (xs : List X) (i j : ℕ) (x : X) → j ≢ i → slice_get (slice_set xs i x) j ≡ slice_get xs j
get_set_other [] i j x h = refl
get_set_other (y ∷ xs) zero zero x h = absurd (h refl)
get_set_other (y ∷ xs) zero (suc j) x h = refl
get_set_other (y ∷ xs) (suc i) zero x h = refl
get_set_other (y ∷ xs) (suc i) (suc j) x h = get_set_other xs i j x (λ e. h (ap suc e))

-- an item is the same with more items behind
pub get_append_left : {X : Type 0} (xs ys : List X) (j : ℕ) → j < length xs → slice_get (xs ++ ys) j ≡ slice_get xs j
get_append_left [] ys j lt = absurd (omega arith)
get_append_left (x ∷ xs) ys zero lt = refl
get_append_left (x ∷ xs) ys (suc j) lt = get_append_left xs ys j (omega arith)
