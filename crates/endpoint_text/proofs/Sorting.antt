-- Items in ascending order are the items in another order, which ascends, and those of one word keep their order.
use Rattle.std.proofs.Common.{◌≡◌, ℕ, zero, suc, ◌+◌, ◌&&◌, not, Bool, true, false, cond, List, [], ◌∷◌, refl, ap, subst, ◌∙◌, arith}
use Rattle.std.specs.Prelude.{if◌then◌else◌}
use Rattle.std.specs.Ordering.{is_lt, nat_cmp}
use Rattle.std.specs.Cmp.{IsStrictWeakOrder}
use Rattle.std.specs.Cmp.Lexicographic.{slice_cmp, nat_list_cmp_total}
use Rattle.std.specs.List.{filter}
use Rattle.std.specs.List.Sorted.{IsPermutation, IsSortedByKey, ties}
use Rattle.std.proofs.lemmas.List.Sorted.{ranks_by, IsPermutation-refl, IsPermutation-cons, IsPermutation-trans, IsPermutation-insert}
use Rattle.endpoint_text.specs.Ascending.{inserted, ascending}
use Rattle.endpoint_text.specs.Places.{place_in}
use Rattle.endpoint_text.proofs.Ascents.{put_place}

-- two items of which at most one passes a test stand in either order before what passes
either_first : {A : Type 0} (a b : Bool) (x y : A) (zs : List A) → (a ≡ true → b ≡ true → ⊥)
    → cond b (y ∷ cond a (x ∷ zs) zs) (cond a (x ∷ zs) zs) ≡ cond a (x ∷ cond b (y ∷ zs) zs) (cond b (y ∷ zs) zs)
either_first true true x y zs h = absurd (h refl refl)
either_first true false x y zs h = refl
either_first false true x y zs h = refl
either_first false false x y zs h = refl

neither : (a b : Bool) → (not a && not b) ≡ true → (a ≡ false) × (b ≡ false)
neither true b h = cc
neither false true h = cc
neither false false h = (refl, refl)

module _ {A : Type 0} (word : A → List ℕ) where
  abbrev less : A → A → Bool
  less x y = is_lt (slice_cmp nat_cmp (word x) (word y))

  order : IsStrictWeakOrder less
  order = ranks_by nat_list_cmp_total word

  -- ---- the same items

  inserted_permutes : (x : A) (ys : List A) → IsPermutation (x ∷ ys) (inserted word x ys)
  inserted_permutes x ys = subst (IsPermutation (x ∷ ys)) (put_place word x ys) (IsPermutation-insert ys (place_in word (word x) ys) x)

  pub permuted : (xs : List A) → IsPermutation xs (ascending word xs)
  permuted [] = IsPermutation-refl []
  permuted (x ∷ xs) = IsPermutation-trans (x ∷ xs) (x ∷ ascending word xs) (inserted word x (ascending word xs)) (IsPermutation-cons x xs (ascending word xs) (permuted xs)) (inserted_permutes x (ascending word xs))

  -- ---- in order

  abbrev Ascends : List A → Type 0
  Ascends xs = IsSortedByKey word (slice_cmp nat_cmp) xs

  none_ascends : Ascends []
  none_ascends k d le lt = absurd (omega arith)

  one_ascends : (x : A) → Ascends (x ∷ [])
  one_ascends x k d le lt = absurd (omega arith)

  ascends_more : (x y : A) (ys : List A) → less y x ≡ false → Ascends (y ∷ ys) → Ascends (x ∷ y ∷ ys)
  ascends_more x y ys h up zero d le lt = h
  ascends_more x y ys h up (suc k) d le lt =
      let e : suc k + 1 ≡ suc (k + 1) = omega arith in
      rw e (up k d (omega arith) (omega arith))

  ascends_rest : (x : A) (ys : List A) → Ascends (x ∷ ys) → Ascends ys
  ascends_rest x ys up k d le lt =
      let e : suc k + 1 ≡ suc (k + 1) = omega arith in
      rw e at (up (suc k) d (omega arith) (omega arith))

  after_first : (x y : A) (ys : List A) → less y x ≡ true → Ascends (y ∷ ys) → Ascends (inserted word x ys) → Ascends (y ∷ inserted word x ys)
  after_first x y [] h up rest = ascends_more y x [] (order.one_way y x h) rest
  after_first x y (z ∷ zs) h up rest = go (less z x) rest
    where
      go : (b : Bool) → Ascends (if b then z ∷ inserted word x zs else x ∷ z ∷ zs) → Ascends (y ∷ (if b then z ∷ inserted word x zs else x ∷ z ∷ zs))
      go true r = ascends_more y z (inserted word x zs) (up 0 z (omega arith) (omega arith)) r
      go false r = ascends_more y x (z ∷ zs) (order.one_way y x h) r

  inserted_ascends : (x : A) (ys : List A) → Ascends ys → Ascends (inserted word x ys)
  inserted_ascends x [] up = one_ascends x
  inserted_ascends x (y ∷ ys) up = go (less y x) refl (inserted_ascends x ys (ascends_rest y ys up))
    where
      go : (b : Bool) → less y x ≡ b → Ascends (inserted word x ys) → Ascends (if b then y ∷ inserted word x ys else x ∷ y ∷ ys)
      go true h rest = after_first x y ys h up rest
      go false h rest = ascends_more x y ys h up

  pub ascends : (xs : List A) → Ascends (ascending word xs)
  ascends [] = none_ascends
  ascends (x ∷ xs) = inserted_ascends x (ascending word xs) (ascends xs)

  -- ---- items of one word

  apart : (z x y : A) → less y x ≡ true → ties less z x ≡ true → ties less z y ≡ true → ⊥
  apart z x y h t u =
      let to_x = neither (less z x) (less x z) t in
      let to_y = neither (less z y) (less y z) u in
      let none : less y x ≡ false = order.chain y z x to_y.1 to_x.0 in cc

  inserted_keeps : (z x : A) (ys : List A) → filter (ties less z) (inserted word x ys) ≡ filter (ties less z) (x ∷ ys)
  inserted_keeps z x [] = refl
  inserted_keeps z x (y ∷ ys) = go (less y x) refl (inserted_keeps z x ys)
    where
      go : (b : Bool) → less y x ≡ b → filter (ties less z) (inserted word x ys) ≡ filter (ties less z) (x ∷ ys) → filter (ties less z) (if b then y ∷ inserted word x ys else x ∷ y ∷ ys) ≡ filter (ties less z) (x ∷ y ∷ ys)
      go true h rest =
          ap (λ zs. cond (ties less z y) (y ∷ zs) zs) rest ∙ either_first (ties less z x) (ties less z y) x y (filter (ties less z) ys) (λ t u. apart z x y h t u)
      go false h rest = refl

  pub keeps : (xs : List A) (z : A) → filter (ties less z) (ascending word xs) ≡ filter (ties less z) xs
  keeps [] z = refl
  keeps (x ∷ xs) z = inserted_keeps z x (ascending word xs) ∙ ap (λ zs. cond (ties less z x) (x ∷ zs) zs) (keeps xs z)
