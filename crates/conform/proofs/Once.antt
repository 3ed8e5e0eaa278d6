-- Events go astray at one place.
use Rattle.std.proofs.Common.{◌≡◌, ℕ, zero, suc, ◌≤◌, ◌<◌, List, [], ◌∷◌, ◌++◌, take, drop, refl, sym, ap, ◌∙◌, subst, arith, append_assoc}
use Rattle.std.specs.Prelude.{◌⊎◌}
use Rattle.std.proofs.Common.{inl, inr}
use Rattle.chor_base.specs.declared.event.Event.{Event}
use Rattle.chor_tree.specs.declared.file.File.{File}
use Rattle.conform.specs.ByRole.{ConformsByRole}
use Rattle.conform.specs.Judged.{IsAstray}

pub front_conforms : (f : File) (first rest : List Event) → ConformsByRole f (first ++ rest) → ConformsByRole f first
front_conforms f front rest h first x more i = h first x (more ++ rest) (ap (λ (xs : List Event). xs ++ rest) i ∙ append_assoc first (x ∷ more) rest)

-- fewer of the first items come first among them
fewer : {A : Type 0} (n m : ℕ) (xs : List A) → n ≤ m → take m xs ≡ take n xs ++ drop n (take m xs)
fewer zero m xs h = refl
fewer (suc n) zero xs h = absurd (omega (arith, h))
fewer (suc n) (suc m) [] h = refl
fewer (suc n) (suc m) (x ∷ xs) h = ap (λ l. x ∷ l) (fewer n m xs (omega (arith, h)))

whole : {A : Type 0} (n : ℕ) (xs : List A) → xs ≡ take n xs ++ drop n xs
whole zero xs = refl
whole (suc n) [] = refl
whole (suc n) (x ∷ xs) = ap (λ l. x ∷ l) (whole n xs)

cases : (n m : ℕ) → (n < m) ⊎ ((m < n) ⊎ (n ≡ m))
cases zero zero = inr (inr refl)
cases zero (suc m) = inl (omega arith)
cases (suc n) zero = inr (inl (omega arith))
cases (suc n) (suc m) = up (cases n m)
  where
    up : (n < m) ⊎ ((m < n) ⊎ (n ≡ m)) → (suc n < suc m) ⊎ ((suc m < suc n) ⊎ (suc n ≡ suc m))
    up (inl h) = inl (omega (arith, h))
    up (inr (inl h)) = inr (inl (omega (arith, h)))
    up (inr (inr h)) = inr (inr (ap suc h))

module _ (f : File) (xs : List Event) where
  pub not_whole : (i : ℕ) → IsAstray f xs i → ConformsByRole f xs → ⊥
  not_whole i a c = a.astray (front_conforms f (take (suc a.before) xs) (drop (suc a.before) xs) (subst (ConformsByRole f) (whole (suc a.before) xs) c))

  -- one doesn't come before the other
  not_before : (i j : ℕ) (a : IsAstray f xs i) (b : IsAstray f xs j) → a.before < b.before → ⊥
  not_before i j a b less =
      let n = suc a.before in
      a.astray (front_conforms f (take n xs) (drop n (take b.before xs)) (subst (ConformsByRole f) (fewer n b.before xs (omega (arith, less))) b.conforms))

  pub one_place : (i j : ℕ) → IsAstray f xs i → IsAstray f xs j → i ≡ j
  one_place i j a b = go (cases a.before b.before)
    where
      go : (a.before < b.before) ⊎ ((b.before < a.before) ⊎ (a.before ≡ b.before)) → i ≡ j
      go (inl h) = absurd (not_before i j a b h)
      go (inr (inl h)) = absurd (not_before j i b a h)
      go (inr (inr h)) = a.number ∙ ap suc h ∙ sym b.number
