-- Lists that are gone through from the first item on, for a function F of what is left of them.
use Rattle.std.proofs.Common.{◌≡◌, ℕ, ◌+◌, ◌<◌, ◌≤◌, ◌==◌, Bool, true, false, List, [], ◌∷◌, length, drop, ap, sym, subst, ◌∙◌, refl, Option, Some, add-one, drop-cons}
use Rattle.std.specs.Prelude.{slice_index_or, if◌then◌else◌}
use Rattle.std.proofs.lemmas.List.{drop_all}
use Rattle.chor_base.specs.declared.names.NameId.{NameId}
use Rattle.chor_tree.specs.Names.{first_named}
use Rattle.chor_tree.specs.declared.file.Named.{Named}
use Rattle.typing_steps.proofs.Passed.{item_first}

module _ {A B : Type 0} (F : List A → B) (ys xs : List A) (i : ℕ) (whole : B) where
  pub at_item : (x : A) → ys ≡ xs → i < length ys → x ≡ slice_index_or ys i x → F (drop i xs) ≡ whole → F (x ∷ drop (i + 1) xs) ≡ whole
  at_item x same lt is_x so_far = ap F (sym (subst (λ l. drop i l ≡ x ∷ drop (i + 1) l) same (item_first ys i x lt is_x))) ∙ so_far

  pub at_place : (d : A) → ys ≡ xs → i < length ys → F (drop i xs) ≡ whole → F (slice_index_or ys i d ∷ drop (i + 1) xs) ≡ whole
  at_place d same lt so_far = ap F (sym (subst (λ l. drop i l ≡ slice_index_or ys i d ∷ drop (i + 1) l) same (rw (add-one, drop-cons ys i d) refl))) ∙ so_far

  pub at_end : ys ≡ xs → length ys ≤ i → F (drop i xs) ≡ whole → F [] ≡ whole
  at_end same le so_far = ap F (sym (drop_all i xs (subst (λ l. length l ≤ i) same le))) ∙ so_far

-- the first item with a name, looked for item by item
module _ {A : Type 0} (name_of : A → Named) (ys xs : List A) (name : NameId) (i : ℕ) (whole : Option A) (a : A) {b : Bool} (test : b ≡ ((name_of a).name.0 == name.0)) (same : ys ≡ xs) (lt : i < length ys) (is : a ≡ slice_index_or ys i a) (so_far : first_named name_of (drop i xs) name ≡ whole) where
  step : (if b then Some a else first_named name_of (drop (i + 1) xs) name) ≡ whole
  step = ap (λ b. if b then Some a else first_named name_of (drop (i + 1) xs) name) test ∙ at_item (λ l. first_named name_of l name) ys xs i whole a same lt is so_far

  pub found : b ≡ true → Some a ≡ whole
  found h = subst (λ (d : Bool). (if d then Some a else first_named name_of (drop (i + 1) xs) name) ≡ whole) h step

  pub passed : b ≡ false → first_named name_of (drop (i + 1) xs) name ≡ whole
  passed h = subst (λ (d : Bool). (if d then Some a else first_named name_of (drop (i + 1) xs) name) ≡ whole) h step
