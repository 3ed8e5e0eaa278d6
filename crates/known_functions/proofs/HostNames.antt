-- The names of host functions, one by one.
use Rattle.std.proofs.Common.{◌≡◌, ℕ, zero, suc, ◌+◌, List, [], ◌∷◌, ◌++◌, add-one, take, sym, ap, ◌∙◌, Some}
use Rattle.std.specs.Prelude.{slice_get}
use Rattle.chor_host.specs.Functions.{Function, names_of}

taken : (fs : List Function) (i : ℕ) (x : Function) → slice_get fs i ≡ Some x → take (suc i) (names_of fs) ≡ take i (names_of fs) ++ x.0 ∷ []
taken [] i x h = absurd cc
taken (f ∷ fs) zero x h = ap (λ y. y ∷ []) (ap (λ z. z.0) (some_is f x h))
  where
    some_is : (a b : Function) → Some a ≡ Some b → a ≡ b
    some_is a b i = cc
taken (f ∷ fs) (suc i) x h = ap (λ l. f.0 ∷ l) (taken fs i x h)

-- one name more is in the list
pub names_turn : (fs : List Function) (i : ℕ) (x : Function) (old new : List (List ℕ)) (name : List ℕ)
    → slice_get fs i ≡ Some x → name ≡ x.0 → old ≡ take i (names_of fs) → new ≡ old ++ name ∷ [] → new ≡ take (i + 1) (names_of fs)
names_turn fs i x old new name at is_name is_old is_new =
    is_new ∙ ap (λ l. l ++ name ∷ []) is_old ∙ ap (λ n. take i (names_of fs) ++ n ∷ []) is_name ∙ sym (taken fs i x at) ∙ ap (λ k. take k (names_of fs)) (sym (add-one i))
