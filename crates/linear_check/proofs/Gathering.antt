-- Tests that are gathered over a list, from the first item on.
use Rattle.std.proofs.Common.{◌≡◌, ℕ, ◌+◌, ◌<◌, ◌≤◌, ◌||◌, ◌&&◌, Bool, true, false, List, ◌∷◌, length, drop, refl, ap, sym, ◌∙◌, add-one, drop-cons}
use Rattle.std.specs.Prelude.{slice_index_or}
use Rattle.std.specs.List.{list_any, list_all}
use Rattle.std.proofs.lemmas.List.{drop_all}

taken : {A : Type 0} (xs : List A) (i : ℕ) (d : A) → i < length xs → drop i xs ≡ slice_index_or xs i d ∷ drop (i + 1) xs
taken xs i d lt = rw (add-one, drop-cons xs i d) refl

or_or : (a b r : Bool) → ((a || b) || r) ≡ (a || (b || r))
or_or true b r = refl
or_or false b r = refl

and_and : (a b r : Bool) → ((a && b) && r) ≡ (a && (b && r))
and_and true b r = refl
and_and false b r = refl

or_within : (a b r m : Bool) → ((a || (b && m)) || (r && m)) ≡ (a || ((b || r) && m))
or_within true b r m = refl
or_within false true true true = refl
or_within false true true false = refl
or_within false true false true = refl
or_within false true false false = refl
or_within false false r m = refl

or_none : (a : Bool) → (a || false) ≡ a
or_none true = refl
or_none false = refl

and_none : (a : Bool) → (a && true) ≡ a
and_none true = refl
and_none false = refl

module _ {A : Type 0} (p : A → Bool) (xs : List A) (i : ℕ) (old whole : Bool) where
  pub any_turn : (d : A) (new : Bool) → i < length xs → new ≡ (old || p (slice_index_or xs i d)) → (old || list_any p (drop i xs)) ≡ whole → (new || list_any p (drop (i + 1) xs)) ≡ whole
  any_turn d new lt is so_far =
      let rest = list_any p (drop (i + 1) xs) in
      ap (λ b. b || rest) is ∙ or_or old (p (slice_index_or xs i d)) rest ∙ ap (λ l. old || list_any p l) (sym (taken xs i d lt)) ∙ so_far

  pub any_end : length xs ≤ i → (old || list_any p (drop i xs)) ≡ whole → old ≡ whole
  any_end le so_far = sym (or_none old) ∙ ap (λ l. old || list_any p l) (sym (drop_all i xs le)) ∙ so_far

  pub all_turn : (d : A) (new : Bool) → i < length xs → new ≡ (old && p (slice_index_or xs i d)) → (old && list_all p (drop i xs)) ≡ whole → (new && list_all p (drop (i + 1) xs)) ≡ whole
  all_turn d new lt is so_far =
      let rest = list_all p (drop (i + 1) xs) in
      ap (λ b. b && rest) is ∙ and_and old (p (slice_index_or xs i d)) rest ∙ ap (λ l. old && list_all p l) (sym (taken xs i d lt)) ∙ so_far

  pub all_end : length xs ≤ i → (old && list_all p (drop i xs)) ≡ whole → old ≡ whole
  all_end le so_far = sym (and_none old) ∙ ap (λ l. old && list_all p l) (sym (drop_all i xs le)) ∙ so_far

  -- the same where the items that pass count for a mark alone
  pub marked_turn : (m : Bool) (d : A) (new : Bool) → i < length xs → new ≡ (old || (p (slice_index_or xs i d) && m)) → (old || (list_any p (drop i xs) && m)) ≡ whole → (new || (list_any p (drop (i + 1) xs) && m)) ≡ whole
  marked_turn m d new lt is so_far =
      let rest = list_any p (drop (i + 1) xs) in
      ap (λ b. b || (rest && m)) is ∙ or_within old (p (slice_index_or xs i d)) rest m ∙ ap (λ l. old || (list_any p l && m)) (sym (taken xs i d lt)) ∙ so_far

  pub marked_end : (m : Bool) → length xs ≤ i → (old || (list_any p (drop i xs) && m)) ≡ whole → old ≡ whole
  marked_end m le so_far = sym (or_none old) ∙ ap (λ l. old || (list_any p l && m)) (sym (drop_all i xs le)) ∙ so_far
