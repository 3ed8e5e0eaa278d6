-- The first that is so named is found, or none is.
use Rattle.std.proofs.Common.{◌≡◌, ℕ, ◌+◌, ◌<◌, ◌≤◌, List, [], ◌∷◌, ◌++◌, length, take, get_or, sym, subst}
use Rattle.std.specs.Prelude.{All}
use Rattle.std.specs.List.{AllZip}
use Rattle.std.proofs.lemmas.List.{take_more, take_all}
use Rattle.std.proofs.lemmas.List.Elements.{All-push}

module _ {A : Type 0} (Named : A → Type 0) (given : List A) where
  pub none_more : (i : ℕ) (d : A) → i < length given → All (λ x. Named x → ⊥) (take i given) → (Named (get_or given i d) → ⊥) → All (λ x. Named x → ⊥) (take (i + 1) given)
  none_more i d l h other = subst (All (λ x. Named x → ⊥)) (sym (take_more given i d l)) (All-push (λ x. Named x → ⊥) (take i given) (get_or given i d) h other)

  pub none_there : (i : ℕ) → length given ≤ i → All (λ x. Named x → ⊥) (take i given) → All (λ x. Named x → ⊥) given
  none_there i l h = subst (All (λ x. Named x → ⊥)) (take_all i given l) h

zip_push : {A B : Type 0} (R : A → B → Type 0) (xs : List A) (ys : List B) (x : A) (y : B) → AllZip R xs ys → R x y → AllZip R (xs ++ x ∷ []) (ys ++ y ∷ [])
zip_push R [] [] x y h r = (r, tt)
zip_push R [] (z ∷ ys) x y h r = absurd h
zip_push R (z ∷ xs) [] x y h r = absurd h
zip_push R (z ∷ xs) (w ∷ ys) x y h r = (h.0, zip_push R xs ys x y h.1 r)

pub zip_more : {A B : Type 0} (R : A → B → Type 0) (base : List A) (list made : List B) (i : ℕ) (d : A) (y : B) → i < length base → AllZip R (take i base) list → made ≡ list ++ y ∷ [] → R (get_or base i d) y → AllZip R (take (i + 1) base) made
zip_more R base list made i d y l h is r =
    subst (AllZip R (take (i + 1) base)) (sym is) (subst (λ xs. AllZip R xs (list ++ y ∷ [])) (sym (take_more base i d l)) (zip_push R (take i base) list (get_or base i d) y h r))

pub zip_whole : {A B : Type 0} (R : A → B → Type 0) (base : List A) (list : List B) (i : ℕ) → length base ≤ i → AllZip R (take i base) list → AllZip R base list
zip_whole R base list i l h = subst (λ xs. AllZip R xs list) (take_all i base l) h
