-- Lists and options that are related item by item.
use Rattle.std.proofs.Common.{◌≡◌, ℕ, zero, suc, Bool, true, false, List, [], ◌∷◌, ◌++◌, length, refl, sym, ap, subst, Option, Some, None, is_some, if◌then◌else◌}
use Rattle.std.specs.Prelude.{slice_get, slice_set, All}
use Rattle.std.proofs.lemmas.List.Elements.{All-head, All-tail}
use Rattle.std.specs.List.{AllZip}
use Rattle.same_programs.specs.Words.{BothOrNeither}

module _ {A B : Type 0} (R : A → B → Type 0) where
  pub zip_length : (xs : List A) (ys : List B) → AllZip R xs ys → length xs ≡ length ys
  zip_length [] [] h = refl
  zip_length [] (y ∷ ys) h = absurd h
  zip_length (x ∷ xs) [] h = absurd h
  zip_length (x ∷ xs) (y ∷ ys) h = ap suc (zip_length xs ys h.1)

  pub zip_get : (xs : List A) (ys : List B) → AllZip R xs ys → (i : ℕ) → BothOrNeither R (slice_get xs i) (slice_get ys i)
  zip_get [] [] h i = tt
  zip_get [] (y ∷ ys) h i = absurd h
  zip_get (x ∷ xs) [] h i = absurd h
  zip_get (x ∷ xs) (y ∷ ys) h zero = h.0
  zip_get (x ∷ xs) (y ∷ ys) h (suc i) = zip_get xs ys h.1 i

  pub zip_set : (xs : List A) (ys : List B) → AllZip R xs ys → (i : ℕ) (a : A) (b : B) → R a b → AllZip R (slice_set xs i a) (slice_set ys i b)
  zip_set [] [] h i a b r = tt
  zip_set [] (y ∷ ys) h i a b r = absurd h
  zip_set (x ∷ xs) [] h i a b r = absurd h
  zip_set (x ∷ xs) (y ∷ ys) h zero a b r = (r, h.1)
  zip_set (x ∷ xs) (y ∷ ys) h (suc i) a b r = (h.0, zip_set xs ys h.1 i a b r)

  pub zip_append : (xs : List A) (ys : List B) (us : List A) (vs : List B) → AllZip R xs ys → AllZip R us vs → AllZip R (xs ++ us) (ys ++ vs)
  zip_append [] [] us vs h k = k
  zip_append [] (y ∷ ys) us vs h k = absurd h
  zip_append (x ∷ xs) [] us vs h k = absurd h
  zip_append (x ∷ xs) (y ∷ ys) us vs h k = (h.0, zip_append xs ys us vs h.1 k)

  pub zip_map : (S : A → B → Type 0) → ((a : A) (b : B) → R a b → S a b) → (xs : List A) (ys : List B) → AllZip R xs ys → AllZip S xs ys
  zip_map S f [] [] h = tt
  zip_map S f [] (y ∷ ys) h = absurd h
  zip_map S f (x ∷ xs) [] h = absurd h
  zip_map S f (x ∷ xs) (y ∷ ys) h = (f x y h.0, zip_map S f xs ys h.1)

  pub zip_turned : (S : B → A → Type 0) → ((a : A) (b : B) → R a b → S b a) → (xs : List A) (ys : List B) → AllZip R xs ys → AllZip S ys xs
  zip_turned S f [] [] h = tt
  zip_turned S f [] (y ∷ ys) h = absurd h
  zip_turned S f (x ∷ xs) [] h = absurd h
  zip_turned S f (x ∷ xs) (y ∷ ys) h = (f x y h.0, zip_turned S f xs ys h.1)

  -- what holds of all items of one of the lists holds beside
  pub zip_left : (P : A → Type 0) → (xs : List A) (ys : List B) → AllZip R xs ys → All P xs → AllZip (λ x y. R x y × P x) xs ys
  zip_left P [] [] h p = tt
  zip_left P [] (y ∷ ys) h p = absurd h
  zip_left P (x ∷ xs) [] h p = absurd h
  zip_left P (x ∷ xs) (y ∷ ys) h p = ((h.0, All-head P x xs p), zip_left P xs ys h.1 (All-tail P x xs p))

  pub zip_right : (P : B → Type 0) → (xs : List A) (ys : List B) → AllZip R xs ys → All P ys → AllZip (λ x y. R x y × P y) xs ys
  zip_right P [] [] h p = tt
  zip_right P [] (y ∷ ys) h p = absurd h
  zip_right P (x ∷ xs) [] h p = absurd h
  zip_right P (x ∷ xs) (y ∷ ys) h p = ((h.0, All-head P y ys p), zip_right P xs ys h.1 (All-tail P y ys p))

  -- ---- options

  pub both_at : (o u : Option A) (o' u' : Option B) → o ≡ u → o' ≡ u' → BothOrNeither R u u' → BothOrNeither R o o'
  both_at o u o' u' e f h = subst (λ (w : Option A). BothOrNeither R w o') (sym e) (subst (λ (w : Option B). BothOrNeither R u w) (sym f) h)

  pub both_some : (o : Option A) (o' : Option B) → BothOrNeither R o o' → is_some o ≡ is_some o'
  both_some None None h = refl
  both_some None (Some y) h = absurd h
  both_some (Some x) None h = absurd h
  both_some (Some x) (Some y) h = refl

  pub both_if : (b : Bool) (x : A) (y : B) (o : Option A) (o' : Option B) → R x y → BothOrNeither R o o' → BothOrNeither R (if b then Some x else o) (if b then Some y else o')
  both_if true x y o o' r h = r
  both_if false x y o o' r h = h

  -- where two tests are the same
  pub both_choice : (b c : Bool) (x : A) (y : B) (o : Option A) (o' : Option B) → b ≡ c → R x y → BothOrNeither R o o' → BothOrNeither R (if b then Some x else o) (if c then Some y else o')
  both_choice b c x y o o' e r h = subst (λ t. BothOrNeither R (if b then Some x else o) (if t then Some y else o')) e (both_if b x y o o' r h)

  pub both_unless : (b : Bool) (o : Option A) (o' : Option B) → BothOrNeither R o o' → BothOrNeither R (if b then None else o) (if b then None else o')
  both_unless true o o' h = tt
  both_unless false o o' h = h

  pub both_map : (S : A → B → Type 0) → ((a : A) (b : B) → R a b → S a b) → (o : Option A) (o' : Option B) → BothOrNeither R o o' → BothOrNeither S o o'
  both_map S f None None h = tt
  both_map S f None (Some y) h = absurd h
  both_map S f (Some x) None h = absurd h
  both_map S f (Some x) (Some y) h = f x y h
