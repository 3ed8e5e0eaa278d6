-- The text of local types, one after another.
use Rattle.std.proofs.Common.{◌≡◌, ◌<◌, ◌≤◌, ◌+◌, ℕ, zero, suc, List, [], ◌∷◌, ◌++◌, length, take, refl, sym, ap, ◌∙◌, subst, append_assoc, append-nil, arith}
use Rattle.std.specs.Prelude.{slice_index_or}
use Rattle.std.proofs.lemmas.List.{take_all}
use Rattle.local_types.specs.Texts.{AreTexts}

module _ {A : Type 0} (Each : A → List ℕ → Type 0) where
  -- one text more
  pub one_more : (xs : List A) (i : ℕ) (d : A) (text one : List ℕ) → i < length xs → AreTexts Each (take i xs) text → Each (slice_index_or xs i d) one → AreTexts Each (take (suc i) xs) (text ++ one)
  one_more [] i d text one l h e = absurd (omega arith)
  one_more (x ∷ xs) zero d text one l h e = (one, [], e, refl, ap (λ t. t ++ one) h ∙ sym (append-nil one))
  one_more (x ∷ xs) (suc i) d text one l h e =
      let rest = one_more xs i d h.1 one (omega arith) h.3 e in
      (h.0, h.1 ++ one, h.2, rest, ap (λ t. t ++ one) h.4 ∙ append_assoc h.0 h.1 one)

  -- with the text that there is by now, and the list that it is read from
  pub texts_more : (xs seen : List A) (i : ℕ) (d : A) (text new one : List ℕ) → seen ≡ xs → i < length seen → AreTexts Each (take i xs) text → Each (slice_index_or seen i d) one → new ≡ text ++ one → AreTexts Each (take (i + 1) xs) new
  texts_more xs seen i d text new one s l h e n =
      let next : suc i ≡ i + 1 = omega arith in
      subst (λ (t : List ℕ). AreTexts Each (take (i + 1) xs) t) (sym n)
      (subst (λ (k : ℕ). AreTexts Each (take k xs) (text ++ one)) next
      (one_more xs i d text one (subst (λ (ys : List A). i < length ys) s l) h (subst (λ (ys : List A). Each (slice_index_or ys i d) one) s e)))

  pub texts_whole : (xs seen : List A) (i : ℕ) (text : List ℕ) → seen ≡ xs → length seen ≤ i → AreTexts Each (take i xs) text → AreTexts Each xs text
  texts_whole xs seen i text s l h = subst (λ (ys : List A). AreTexts Each ys text) (take_all i xs (subst (λ (ys : List A). length ys ≤ i) s l)) h
