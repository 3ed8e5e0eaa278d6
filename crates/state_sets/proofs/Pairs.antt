-- Lists in which each item has to do with all that come after it.
use Rattle.std.proofs.Common.{ℕ, ◌≡◌, ◌≢◌, ◌<◌, ◌≤◌, List, [], ◌∷◌, ◌++◌, map, refl, ap, sym, subst, ◌∙◌, arith, inl, inr, zero, suc, length, get_or, length-set}
use Rattle.std.specs.Prelude.{◌⊎◌, AllPairs, slice_index_or, slice_set, swap}
use Rattle.std.specs.List.Sorted.{IsPermutation}
use Rattle.std.proofs.lemmas.Bool.{cases_lt}
use Rattle.std.proofs.lemmas.List.{get_or-set_same, get_or-set_other}
use Rattle.std.proofs.lemmas.List.Edits.{swap_is, length-swap}
use Rattle.std.proofs.lemmas.List.Sorted.{IsPermutation-keeps}
use Rattle.std.proofs.lemmas.Option.{slice_get-get_or, get_or_from_slice_get, slice_get_within}
use Rattle.std.proofs.lemmas.Bool.{cases_eq}
use Rattle.global_types.specs.Moves.{IsIn}
use Rattle.state_sets.proofs.Lists.{at_of_in, in_of_at, in_left, in_right, in_either, in_map_back}

module _ {A : Type 0} (R : A → A → Type 0) where
  pub pairs_first : (x : A) (xs : List A) → AllPairs R (x ∷ xs) → (y : A) → IsIn y xs → R x y
  pairs_first x xs h y among =
      let p = at_of_in y xs among in
      let b = slice_get_within xs p.0 y p.1 in
      subst (λ v. R x v) (get_or_from_slice_get xs p.0 y x p.1) (h 0 (suc p.0) x (omega arith) (omega (arith, b)))

  pub pairs_rest : (x : A) (xs : List A) → AllPairs R (x ∷ xs) → AllPairs R xs
  pairs_rest x xs h i j d less within = h (suc i) (suc j) d (omega (arith, less)) (omega (arith, within))

  pub pairs_cons : (x : A) (xs : List A) → ((y : A) → IsIn y xs → R x y) → AllPairs R xs → AllPairs R (x ∷ xs)
  pairs_cons x xs first rest zero zero d less within = absurd (omega (arith, less))
  pairs_cons x xs first rest zero (suc j) d less within = first (slice_index_or xs j d) (in_of_at (slice_index_or xs j d) xs j (slice_get-get_or xs j d (omega (arith, within))))
  pairs_cons x xs first rest (suc i) zero d less within = absurd (omega (arith, less))
  pairs_cons x xs first rest (suc i) (suc j) d less within = rest i j d (omega (arith, less)) (omega (arith, within))

  pub pairs_append : (xs ys : List A) → AllPairs R xs → AllPairs R ys → ((x y : A) → IsIn x xs → IsIn y ys → R x y) → AllPairs R (xs ++ ys)
  pairs_append [] ys h k across = k
  pairs_append (x ∷ xs) ys h k across = pairs_cons x (xs ++ ys) (λ y m. first y (in_either y xs ys m)) (pairs_append xs ys (pairs_rest x xs h) k (λ u v m n. across u v (inr m) n)) where
    first : (y : A) → IsIn y xs ⊎ IsIn y ys → R x y
    first y (inl m) = pairs_first x xs h y m
    first y (inr m) = across x y (inl refl) m

  pub pairs_without : (xs : List A) (w : A) (ys : List A) → AllPairs R (xs ++ w ∷ ys) → AllPairs R (xs ++ ys)
  pairs_without [] w ys h = pairs_rest w ys h
  pairs_without (x ∷ xs) w ys h = pairs_cons x (xs ++ ys) (λ y m. pairs_first x (xs ++ w ∷ ys) h y (more y (in_either y xs ys m))) (pairs_without xs w ys (pairs_rest x (xs ++ w ∷ ys) h)) where
    more : (y : A) → IsIn y xs ⊎ IsIn y ys → IsIn y (xs ++ w ∷ ys)
    more y (inl m) = in_left y xs (w ∷ ys) m
    more y (inr m) = in_right y xs (w ∷ ys) (inr m)

  pub pairs_front : (xs ys : List A) → AllPairs R (xs ++ ys) → AllPairs R xs
  pairs_front [] ys h = λ i j d less within. absurd (omega (arith, within))
  pairs_front (x ∷ xs) ys h = pairs_cons x xs (λ y m. pairs_first x (xs ++ ys) h y (in_left y xs ys m)) (pairs_front xs ys (pairs_rest x (xs ++ ys) h))

  -- ---- in another order

  abbrev Stood : ℕ → ℕ → ℕ → ℕ → Type 0
  Stood i j k m = ((k ≡ j) × (m ≡ i)) ⊎ (((k ≢ j) × (k ≡ i) × (m ≡ j)) ⊎ ((k ≢ j) × (k ≢ i) × (m ≡ k)))

  stood : (xs : List A) (i j : ℕ) (d : A) → i < length xs → j < length xs → (k : ℕ) → (m : ℕ) × Stood i j k m × (get_or (swap xs i j) k d ≡ get_or xs m d)
  stood xs i j d p q k = go (cases_eq k j) (cases_eq k i) where
    once : List A
    once = slice_set xs i (get_or xs j d)

    is : get_or (swap xs i j) k d ≡ get_or (slice_set once j (get_or xs i d)) k d
    is = ap (λ (l : List A). get_or l k d) (sym (swap_is xs i j d p q))

    go : (k ≡ j) ⊎ (k ≢ j) → (k ≡ i) ⊎ (k ≢ i) → (m : ℕ) × Stood i j k m × (get_or (swap xs i j) k d ≡ get_or xs m d)
    go (inl e) c = (i, inl (e, refl), is ∙ ap (λ n. get_or (slice_set once j (get_or xs i d)) n d) e ∙ get_or-set_same once j (get_or xs i d) d (let l = length-set xs i (get_or xs j d) in omega (arith, l, q)))
    go (inr n) (inl e) = (j, inr (inl (n, e, refl)), is ∙ get_or-set_other once j k (get_or xs i d) d n ∙ ap (λ v. get_or once v d) e ∙ get_or-set_same xs i (get_or xs j d) d p)
    go (inr n) (inr o) = (k, inr (inr (n, o, refl)), is ∙ get_or-set_other once j k (get_or xs i d) d n ∙ get_or-set_other xs i k (get_or xs j d) d o)

  apart : (i j a b m n : ℕ) → a < b → Stood i j a m → Stood i j b n → m ≢ n
  apart i j a b m n h (inl p) (inl q) e = let f = p.0 in let g = q.0 in omega (arith, h, f, g)
  apart i j a b m n h (inl p) (inr (inl q)) e = q.0 (q.1 ∙ sym p.1 ∙ e ∙ q.2)
  apart i j a b m n h (inl p) (inr (inr q)) e = q.1 (sym q.2 ∙ sym e ∙ p.1)
  apart i j a b m n h (inr (inl p)) (inl q) e = p.0 (p.1 ∙ sym q.1 ∙ sym e ∙ p.2)
  apart i j a b m n h (inr (inl p)) (inr (inl q)) e = let f = p.1 in let g = q.1 in omega (arith, h, f, g)
  apart i j a b m n h (inr (inl p)) (inr (inr q)) e = q.0 (sym q.2 ∙ sym e ∙ p.2)
  apart i j a b m n h (inr (inr p)) (inl q) e = p.1 (sym p.2 ∙ e ∙ q.1)
  apart i j a b m n h (inr (inr p)) (inr (inl q)) e = p.0 (sym p.2 ∙ e ∙ q.2)
  apart i j a b m n h (inr (inr p)) (inr (inr q)) e = let f = p.2 in let g = q.2 in omega (arith, h, e, f, g)

  within : (xs : List A) (i j k m : ℕ) → i < length xs → j < length xs → k < length xs → Stood i j k m → m < length xs
  within xs i j k m p q h (inl s) = let e = s.1 in omega (arith, p, e)
  within xs i j k m p q h (inr (inl s)) = let e = s.2 in omega (arith, q, e)
  within xs i j k m p q h (inr (inr s)) = let e = s.2 in omega (arith, h, e)

  pairs_swapped : ((x y : A) → R x y → R y x) → (xs : List A) (i j : ℕ) → i < length xs → j < length xs → AllPairs R xs → AllPairs R (swap xs i j)
  pairs_swapped back xs i j p q h a b d less inside =
      let long : length (swap xs i j) ≡ length xs = length-swap xs i j in
      let one = stood xs i j d p q a in
      let other = stood xs i j d p q b in
      let m = within xs i j a one.0 p q (omega (arith, less, inside, long)) one.1 in
      let n = within xs i j b other.0 p q (omega (arith, inside, long)) other.1 in
      rw (one.2, other.2) (go one.0 other.0 m n (apart i j a b one.0 other.0 less one.1 other.1) (cases_lt one.0 other.0))
    where
      go : (m n : ℕ) → m < length xs → n < length xs → m ≢ n → (m < n) ⊎ (n ≤ m) → R (get_or xs m d) (get_or xs n d)
      go m n u v differ (inl l) = h m n d l v
      go m n u v differ (inr g) = back (get_or xs n d) (get_or xs m d) (h n m d (omega (arith, g, differ)) u)

  pub pairs_permuted : ((x y : A) → R x y → R y x) → (xs ys : List A) → IsPermutation xs ys → AllPairs R xs → AllPairs R ys
  pairs_permuted back xs ys order h = IsPermutation-keeps xs (λ l. AllPairs R l) h (λ l i j p q k. pairs_swapped back l i j p q k) ys order

pub pairs_map : {A B : Type 0} (R : B → B → Type 0) (f : A → B) (xs : List A) → AllPairs (λ x y. R (f x) (f y)) xs → AllPairs R (map f xs)
pairs_map R f [] h = λ i j d less within. absurd (omega (arith, within))
pairs_map {A} {B} R f (x ∷ xs) h = pairs_cons R (f x) (map f xs) (λ y m. first y (in_map_back f y xs m)) (pairs_map R f xs (pairs_rest (λ x y. R (f x) (f y)) x xs h)) where
  first : (y : B) → (z : A) × IsIn z xs × (f z ≡ y) → R (f x) y
  first y p = subst (λ v. R (f x) v) p.2 (pairs_first (λ x y. R (f x) (f y)) x xs h p.0 p.1)
