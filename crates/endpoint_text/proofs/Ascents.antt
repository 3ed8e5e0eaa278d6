-- Where an item goes in a list that ascends, and that what is sorted is what was given.
use Rattle.std.proofs.Common.{◌≡◌, ℕ, suc, ◌+◌, ◌-◌, ◌<◌, ◌≤◌, true, false, List, [], ◌∷◌, length, get_or, drop, map, refl, sym, ap, ◌∙◌, arith, drop-cons, add-one}
use Rattle.std.specs.Prelude.{if◌then◌else◌, All}
use Rattle.std.specs.List.{insert}
use Rattle.std.proofs.lemmas.List.Elements.{All-nil, All-cons, All-head, All-tail}
use Rattle.endpoint_text.specs.Ascending.{is_before, inserted, ascending}
use Rattle.endpoint_text.specs.Places.{place_in}

module _ {A : Type 0} (word : A → List ℕ) where
  pub place_within : (w : List ℕ) (ys : List A) → place_in word w ys ≤ length ys
  place_within w [] = omega arith
  place_within w (y ∷ ys) =
      let h = place_within w ys in
      elim (is_before (word y) w) as (λ b. (if b then suc (place_in word w ys) else 0) ≤ suc (length ys)) [ true ↦ omega arith | false ↦ omega arith ]

  -- at its place an item is inserted
  pub put_place : (x : A) (ys : List A) → insert ys (place_in word (word x) ys) x ≡ inserted word x ys
  put_place x [] = refl
  put_place x (y ∷ ys) =
      let h = put_place x ys in
      elim (is_before (word y) (word x)) as (λ b. insert (y ∷ ys) (if b then suc (place_in word (word x) ys) else 0) x ≡ (if b then y ∷ inserted word x ys else x ∷ y ∷ ys)) [
        | true ↦ ap (λ zs. y ∷ zs) h
        | false ↦ refl
      ]

  -- the place from an index on: further, or there
  pub place_further : (w : List ℕ) (xs : List A) (i : ℕ) (d : A) → i < length xs → is_before (word (get_or xs i d)) w ≡ true → place_in word w (drop i xs) ≡ suc (place_in word w (drop (i + 1) xs))
  place_further w xs i d lt t =
      rw (add-one, drop-cons xs i d) (ap (λ b. if b then suc (place_in word w (drop (suc i) xs)) else 0) t)

  pub place_there : (w : List ℕ) (xs : List A) (i : ℕ) (d : A) → i < length xs → is_before (word (get_or xs i d)) w ≡ false → place_in word w (drop i xs) ≡ 0
  place_there w xs i d lt t =
      rw (drop-cons xs i d) (ap (λ b. if b then suc (place_in word w (drop (suc i) xs)) else 0) t)

  -- the last item that isn't sorted yet goes to its place
  pub one_more : (xs sorted : List A) (n : ℕ) (d : A) → 0 < n → n ≤ length xs → sorted ≡ ascending word (drop n xs) → inserted word (get_or xs (n - 1) d) sorted ≡ ascending word (drop (n - 1) xs)
  one_more xs sorted n d some le e =
      let i : suc (n - 1) ≡ n = omega arith in
      let lt : n - 1 < length xs = omega arith in
      rw (drop-cons xs (n - 1) d) (ap (inserted word (get_or xs (n - 1) d)) (e ∙ ap (λ (j : ℕ). ascending word (drop j xs)) (sym i)))

  -- what holds of all items holds of all that are sorted
  module _ (P : A → Type 0) where
    pub all_inserted : (x : A) (ys : List A) → P x → All P ys → All P (inserted word x ys)
    all_inserted x [] p a = All-cons P x [] p (All-nil P)
    all_inserted x (y ∷ ys) p a =
        let h = All-cons P y (inserted word x ys) (All-head P y ys a) (all_inserted x ys p (All-tail P y ys a)) in
        elim (is_before (word y) (word x)) as (λ b. All P (if b then y ∷ inserted word x ys else x ∷ y ∷ ys)) [
          | true ↦ h
          | false ↦ All-cons P x (y ∷ ys) p a
        ]

    pub all_ascending : (xs : List A) → All P xs → All P (ascending word xs)
    all_ascending [] a = a
    all_ascending (x ∷ xs) a = all_inserted x (ascending word xs) (All-head P x xs a) (all_ascending xs (All-tail P x xs a))

-- an image of sorted items is sorted, where each has the word of its own image
module _ {A B : Type 0} (word : A → List ℕ) (key : B → List ℕ) (f : A → B) (same : (x : A) → key (f x) ≡ word x) where
  map_inserted : (x : A) (ys : List A) → map f (inserted word x ys) ≡ inserted key (f x) (map f ys)
  map_inserted x [] = refl
  map_inserted x (y ∷ ys) =
      let h = map_inserted x ys in
      rw (same y, same x) (elim (is_before (word y) (word x)) as (λ b. map f (if b then y ∷ inserted word x ys else x ∷ y ∷ ys) ≡ (if b then f y ∷ inserted key (f x) (map f ys) else f x ∷ f y ∷ map f ys)) [
        | true ↦ ap (λ zs. f y ∷ zs) h
        | false ↦ refl
      ])

  pub map_ascending : (xs : List A) → map f (ascending word xs) ≡ ascending key (map f xs)
  map_ascending [] = refl
  map_ascending (x ∷ xs) = map_inserted x (ascending word xs) ∙ ap (inserted key (f x)) (map_ascending xs)
