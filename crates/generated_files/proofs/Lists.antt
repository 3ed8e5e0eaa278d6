-- Items of lists, and the first of a name.
use Rattle.std.proofs.Common.{◌≡◌, ◌<◌, ◌==◌, ℕ, zero, suc, Bool, true, false, List, [], ◌∷◌, ◌++◌, map, length, Some, None, refl, ap, ◌∙◌, arith}
use Rattle.std.specs.Prelude.{Contains, option_map, slice_index_or, if◌then◌else◌}
use Rattle.std.specs.List.{flat_map}
use Rattle.chor_base.specs.declared.names.NameId.{NameId}
use Rattle.chor_tree.specs.declared.file.Named.{Named}
use Rattle.chor_tree.specs.Names.{first_named}

pub no_member : {A : Type 0} (x : A) → Contains [] x → ⊥
no_member x (i, l, e) = absurd (omega (arith, l))

pub one_member : {A : Type 0} (x y : A) → Contains (y ∷ []) x → y ≡ x
one_member x y (zero, l, e) = e
one_member x y (suc i, l, e) = absurd (omega (arith, l))

pub mapped_member : {A B : Type 0} (g : A → B) (xs : List A) (x : A) → Contains xs x → Contains (map g xs) (g x)
mapped_member g xs x (i, l, e) = (i, below xs i l, at xs i ∙ ap g e)
  where
    below : (ys : List _) (j : ℕ) → j < length ys → j < length (map g ys)
    below [] j m = m
    below (y ∷ ys) zero m = omega arith
    below (y ∷ ys) (suc j) m = let n = below ys j (omega (arith, m)) in omega (arith, n)

    at : (ys : List _) (j : ℕ) → slice_index_or (map g ys) j (g x) ≡ g (slice_index_or ys j x)
    at [] j = refl
    at (y ∷ ys) zero = refl
    at (y ∷ ys) (suc j) = at ys j

pub later_member : {A : Type 0} (xs : List A) (x y : A) → Contains xs y → Contains (x ∷ xs) y
later_member xs x y (i, l, e) = (suc i, omega (arith, l), e)

-- ---- the first of a name

module _ {A : Type 0} (name : A → Named) (x : NameId) where
  pub first_front : (as' bs : List A) (a : A) → first_named name as' x ≡ Some a → first_named name (as' ++ bs) x ≡ Some a
  first_front [] bs a h = absurd cc
  first_front (b ∷ as') bs a h = go ((name b).name.0 == x.0) h (first_front as' bs a)
    where
      go : (t : Bool) → (if t then Some b else first_named name as' x) ≡ Some a → (first_named name as' x ≡ Some a → first_named name (as' ++ bs) x ≡ Some a) → (if t then Some b else first_named name (as' ++ bs) x) ≡ Some a
      go true h more = h
      go false h more = more h

  pub first_back : (as' bs : List A) → first_named name as' x ≡ None → first_named name (as' ++ bs) x ≡ first_named name bs x
  first_back [] bs h = refl
  first_back (b ∷ as') bs h = go ((name b).name.0 == x.0) h (first_back as' bs)
    where
      go : (t : Bool) → (if t then Some b else first_named name as' x) ≡ None → (first_named name as' x ≡ None → first_named name (as' ++ bs) x ≡ first_named name bs x)
          → (if t then Some b else first_named name (as' ++ bs) x) ≡ first_named name bs x
      go true h more = absurd cc
      go false h more = more h

-- a name is kept by a map
pub first_mapped : {A B : Type 0} (g : A → B) (name : B → Named) (x : NameId) (as' : List A) → option_map g (first_named (λ a. name (g a)) as' x) ≡ first_named name (map g as') x
first_mapped g name x [] = refl
first_mapped g name x (a ∷ as') = go ((name (g a)).name.0 == x.0) (first_mapped g name x as')
  where
    go : (t : Bool) → option_map g (first_named (λ b. name (g b)) as' x) ≡ first_named name (map g as') x
        → option_map g (if t then Some a else first_named (λ b. name (g b)) as' x) ≡ (if t then Some (g a) else first_named name (map g as') x)
    go true h = refl
    go false h = h

-- ---- lists joined end to end

pub none_of : {A B : Type 0} (g : A → List B) (xs : List A) → ((x : A) → Contains xs x → g x ≡ []) → flat_map g xs ≡ []
none_of g [] h = refl
none_of g (x ∷ xs) h = ap (λ l. l ++ flat_map g xs) (h x (0, omega arith, refl)) ∙ none_of g xs (λ y m. h y (later_member xs x y m))
