-- What stands in a list, and in its front.
use Rattle.std.proofs.Common.{ℕ, ◌≡◌, ◌+◌, ◌<◌, ◌≤◌, List, [], ◌∷◌, ◌++◌, refl, ap, sym, subst, ◌∙◌, inl, inr, zero, suc, length, take, get_or, append_assoc}
use Rattle.std.specs.Prelude.{◌⊎◌, Some, slice_get, slice_index_or, map, false, ◌==◌}
use Rattle.std.specs.List.{Contains}
use Rattle.std.specs.List.Sorted.{IsPermutation}
use Rattle.std.proofs.lemmas.List.{take_more, take_all}
use Rattle.std.proofs.lemmas.List.Sorted.{Contains-permutation}
use Rattle.std.proofs.lemmas.Option.{slice_get-get_or, get_or_from_slice_get, slice_get_within}
use Rattle.global_types.specs.Moves.{IsIn}

pub in_left : {A : Type 0} (x : A) (xs ys : List A) → IsIn x xs → IsIn x (xs ++ ys)
in_left x [] ys h = absurd h
in_left x (y ∷ xs) ys (inl e) = inl e
in_left x (y ∷ xs) ys (inr h) = inr (in_left x xs ys h)

pub in_right : {A : Type 0} (x : A) (xs ys : List A) → IsIn x ys → IsIn x (xs ++ ys)
in_right x [] ys h = h
in_right x (y ∷ xs) ys h = inr (in_right x xs ys h)

pub in_either : {A : Type 0} (x : A) (xs ys : List A) → IsIn x (xs ++ ys) → IsIn x xs ⊎ IsIn x ys
in_either x [] ys h = inr h
in_either x (y ∷ xs) ys (inl e) = inl (inl e)
in_either x (y ∷ xs) ys (inr h) = go (in_either x xs ys h) where
  go : IsIn x xs ⊎ IsIn x ys → IsIn x (y ∷ xs) ⊎ IsIn x ys
  go (inl a) = inl (inr a)
  go (inr b) = inr b

pub in_push : {A : Type 0} (x y : A) (xs : List A) → IsIn x (xs ++ y ∷ []) → IsIn x xs ⊎ (y ≡ x)
in_push x y xs h = go (in_either x xs (y ∷ []) h) where
  go : IsIn x xs ⊎ IsIn x (y ∷ []) → IsIn x xs ⊎ (y ≡ x)
  go (inl a) = inl a
  go (inr (inl e)) = inr e
  go (inr (inr b)) = absurd b

pub in_last : {A : Type 0} (x : A) (xs : List A) → IsIn x (xs ++ x ∷ [])
in_last x xs = in_right x xs (x ∷ []) (inl refl)

-- in the front of one item more
pub in_more : {A : Type 0} (x : A) (xs : List A) (k : ℕ) (d : A) → k < length xs → IsIn x (take (k + 1) xs) → IsIn x (take k xs) ⊎ (slice_index_or xs k d ≡ x)
in_more {A} x xs k d h i = in_push x (get_or xs k d) (take k xs) (let P : List A → Type 0 = λ l. IsIn x l in subst P (take_more xs k d h) i)

pub in_kept : {A : Type 0} (x : A) (xs : List A) (k : ℕ) (d : A) → k < length xs → IsIn x (take k xs) → IsIn x (take (k + 1) xs)
in_kept {A} x xs k d h i = let P : List A → Type 0 = λ l. IsIn x l in subst P (sym (take_more xs k d h)) (in_left x (take k xs) (get_or xs k d ∷ []) i)

pub in_new : {A : Type 0} (xs : List A) (k : ℕ) (d : A) → k < length xs → IsIn (slice_index_or xs k d) (take (k + 1) xs)
in_new {A} xs k d h = let P : List A → Type 0 = λ l. IsIn (get_or xs k d) l in subst P (sym (take_more xs k d h)) (in_last (get_or xs k d) (take k xs))

-- ---- by places

pub at_of_in : {A : Type 0} (x : A) (xs : List A) → IsIn x xs → (k : ℕ) × (slice_get xs k ≡ Some x)
at_of_in x [] h = absurd h
at_of_in x (y ∷ xs) (inl e) = (0, ap Some e)
at_of_in x (y ∷ xs) (inr h) = let p = at_of_in x xs h in (suc p.0, p.1)

pub in_of_at : {A : Type 0} (x : A) (xs : List A) (k : ℕ) → slice_get xs k ≡ Some x → IsIn x xs
in_of_at x [] k h = absurd (cc)
in_of_at x (y ∷ xs) zero h = inl cc
in_of_at x (y ∷ xs) (suc k) h = inr (in_of_at x xs k h)

-- ---- in another order

pub in_permuted : {A : Type 0} (x : A) (xs ys : List A) → IsPermutation xs ys → IsIn x xs → IsIn x ys
in_permuted x xs ys p h =
    let a = at_of_in x xs h in
    let c : Contains xs x = (a.0, slice_get_within xs a.0 x a.1, get_or_from_slice_get xs a.0 x x a.1) in
    let d = Contains-permutation xs ys x p c in
    in_of_at x ys d.0 (slice_get-get_or ys d.0 x d.1 ∙ ap Some d.2)

-- ---- images

pub in_map : {A B : Type 0} (f : A → B) (x : A) (xs : List A) → IsIn x xs → IsIn (f x) (map f xs)
in_map f x [] h = absurd h
in_map f x (y ∷ xs) (inl e) = inl (ap f e)
in_map f x (y ∷ xs) (inr h) = inr (in_map f x xs h)

pub in_map_back : {A B : Type 0} (f : A → B) (b : B) (xs : List A) → IsIn b (map f xs) → (x : A) × IsIn x xs × (f x ≡ b)
in_map_back f b [] h = absurd h
in_map_back f b (y ∷ xs) (inl e) = (y, inl refl, e)
in_map_back f b (y ∷ xs) (inr h) = let p = in_map_back f b xs h in (p.0, inr p.1, p.2)

-- ---- a loop that looks for an item

pub item_among : {A : Type 0} (xs : List A) (i : ℕ) (x : A) → i < length xs → x ≡ slice_index_or xs i x → IsIn x xs
item_among {A} xs i x h is = in_of_at x xs i (slice_get-get_or xs i x h ∙ ap (λ (v : A). Some v) (sym is))

pub none_more : {A : Type 0} (P : A → Type 0) (xs : List A) (i : ℕ) (x : A) → i < length xs → x ≡ slice_index_or xs i x → ((a : A) → IsIn a (take i xs) → P a → ⊥) → (P x → ⊥) → (a : A) → IsIn a (take (i + 1) xs) → P a → ⊥
none_more P xs i x h is none not a among p = go (in_more a xs i x h among) where
  go : IsIn a (take i xs) ⊎ (slice_index_or xs i x ≡ a) → ⊥
  go (inl m) = none a m p
  go (inr e) = not (subst P (sym (is ∙ e)) p)

-- the same, where the item is read at its place
pub none_at : {A : Type 0} (P : A → Type 0) (xs : List A) (i : ℕ) (d : A) → i < length xs → ((a : A) → IsIn a (take i xs) → P a → ⊥) → (P (slice_index_or xs i d) → ⊥) → (a : A) → IsIn a (take (i + 1) xs) → P a → ⊥
none_at P xs i d h none not a among p = go (in_more a xs i d h among) where
  go : IsIn a (take i xs) ⊎ (slice_index_or xs i d ≡ a) → ⊥
  go (inl m) = none a m p
  go (inr e) = not (subst P (sym e) p)

pub none_whole : {A : Type 0} (P : A → Type 0) (xs : List A) (i : ℕ) → length xs ≤ i → ((a : A) → IsIn a (take i xs) → P a → ⊥) → (a : A) → IsIn a xs → P a → ⊥
none_whole {A} P xs i h none a among = none a (let Q : List A → Type 0 = λ l. IsIn a l in subst Q (sym (take_all i xs h)) among)

-- a list that isn't empty has a first item
pub first_among : {A : Type 0} (xs : List A) (d : A) → false ≡ (length xs == 0) → IsIn (slice_index_or xs 0 d) xs
first_among [] d e = absurd (cc)
first_among (x ∷ xs) d e = inl refl

-- ---- a loop that appends what each item gives

pub step_on : {A : Type 0} (old new part rest more whole : List A) → new ≡ old ++ part → rest ≡ part ++ more → old ++ rest ≡ whole → new ++ more ≡ whole
step_on old new part rest more whole grows splits before = ap (λ l. l ++ more) grows ∙ append_assoc old part more ∙ ap (λ l. old ++ l) (sym splits) ∙ before
