-- What stands between quotes.
use Rattle.std.proofs.Common.{◌≡◌, ℕ, true, List, [], ◌∷◌, ◌++◌, length, take, Some, None, refl, sym, ap, ◌∙◌, subst, arith}
use Rattle.std.proofs.lemmas.List.{take_at}
use Rattle.chor_lexer.specs.Text.{is_plain, escaped, IsTextOf, nothing, plain, escape, IsBody, empty, one, two}

-- ---- bytes

pub plain_no_quote : (b : ℕ) → is_plain b ≡ true → b ≡ 34 → ⊥
plain_no_quote b e q = let no : is_plain 34 ≡ true = subst (λ (c : ℕ). is_plain c ≡ true) q e in absurd cc

pub plain_no_backslash : (b : ℕ) → is_plain b ≡ true → b ≡ 92 → ⊥
plain_no_backslash b e q = let no : is_plain 92 ≡ true = subst (λ (c : ℕ). is_plain c ≡ true) q e in absurd cc

pub plain_no_feed : (b : ℕ) → is_plain b ≡ true → b ≡ 10 → ⊥
plain_no_feed b e q = let no : is_plain 10 ≡ true = subst (λ (c : ℕ). is_plain c ≡ true) q e in absurd cc

escaped_no_feed : (b c : ℕ) → escaped b ≡ Some c → b ≡ 10 → ⊥
escaped_no_feed b c e q = let no : escaped 10 ≡ Some c = subst (λ (x : ℕ). escaped x ≡ Some c) q e in absurd cc

escaped_same : (b x c d : ℕ) → escaped b ≡ Some c → escaped x ≡ Some d → b ≡ x → c ≡ d
escaped_same b x c d e f q = let g : escaped x ≡ Some c = subst (λ (k : ℕ). escaped k ≡ Some c) q e in cc

pub escaped_clash : (b x c : ℕ) → escaped b ≡ None → escaped x ≡ Some c → b ≡ x → ⊥
escaped_clash b x c e f q = let g : escaped x ≡ None = subst (λ (k : ℕ). escaped k ≡ None) q e in absurd cc

-- ---- fronts of lists

pub heads : (b c : ℕ) (r q : List ℕ) → b ∷ r ≡ c ∷ q → b ≡ c
heads b c r q e = cc

pub tails : (b c : ℕ) (r q : List ℕ) → b ∷ r ≡ c ∷ q → r ≡ q
tails b c r q e = cc

conses : (b c : ℕ) (r q : List ℕ) → b ≡ c → r ≡ q → b ∷ r ≡ c ∷ q
conses b c r q e f = cc

pub no_cons : (b : ℕ) (r : List ℕ) → [] ≡ b ∷ r → ⊥
no_cons b r e = absurd cc

pub quote_no_backslash : (b c : ℕ) → b ≡ 34 → c ≡ 92 → b ≡ c → ⊥
quote_no_backslash b c e f q = absurd (omega arith)

pub fronts_same : (w r v q : List ℕ) → w ++ r ≡ v ++ q → length w ≡ length v → w ≡ v
fronts_same w r v q e n = sym (take_at w r (length w) refl) ∙ ap (take (length w)) e ∙ take_at v q (length w) (sym n)

-- ---- one reading

pub text_same : (w v t u : List ℕ) → IsTextOf w t → IsTextOf v u → w ≡ v → t ≡ u
text_same w v t u nothing nothing e = refl
text_same w v t u nothing (plain p h) e = absurd (no_cons _ _ e)
text_same w v t u nothing (escape p h) e = absurd (no_cons _ _ e)
text_same w v t u (plain p h) nothing e = absurd (no_cons _ _ (sym e))
text_same w v t u (escape p h) nothing e = absurd (no_cons _ _ (sym e))
text_same w v t u (plain p h) (plain o k) e = conses _ _ _ _ (heads _ _ _ _ e) (text_same _ _ _ _ h k (tails _ _ _ _ e))
text_same w v t u (plain p h) (escape o k) e = absurd (plain_no_backslash _ p (heads _ _ _ _ e))
text_same w v t u (escape p h) (plain o k) e = absurd (plain_no_backslash _ o (sym (heads _ _ _ _ e)))
text_same w v t u (escape p h) (escape o k) e = let f = tails _ _ _ _ e in conses _ _ _ _ (escaped_same _ _ _ _ p o (heads _ _ _ _ f)) (text_same _ _ _ _ h k (tails _ _ _ _ f))

pub text_body : (w t : List ℕ) → IsTextOf w t → IsBody w
text_body w t nothing = empty
text_body w t (plain p h) = one p (text_body _ _ h)
text_body w t (escape {b = b} {c = c} p h) = two (λ q. escaped_no_feed b c p q) (text_body _ _ h)

-- the first quote that closes is the same
pub body_same : (a b x y : List ℕ) → IsBody a → IsBody b → a ++ 34 ∷ x ≡ b ++ 34 ∷ y → a ≡ b
body_same a b x y empty empty e = refl
body_same a b x y empty (one p h) e = absurd (plain_no_quote _ p (sym (heads _ _ _ _ e)))
body_same a b x y empty (two p h) e = absurd (quote_no_backslash 34 92 refl refl (heads _ _ _ _ e))
body_same a b x y (one p h) empty e = absurd (plain_no_quote _ p (heads _ _ _ _ e))
body_same a b x y (two p h) empty e = absurd (quote_no_backslash 34 92 refl refl (sym (heads _ _ _ _ e)))
body_same a b x y (one p h) (one o k) e = conses _ _ _ _ (heads _ _ _ _ e) (body_same _ _ x y h k (tails _ _ _ _ e))
body_same a b x y (one p h) (two o k) e = absurd (plain_no_backslash _ p (heads _ _ _ _ e))
body_same a b x y (two o k) (one p h) e = absurd (plain_no_backslash _ p (sym (heads _ _ _ _ e)))
body_same a b x y (two p h) (two o k) e = let f = tails _ _ _ _ e in ap (λ (l : List ℕ). 92 ∷ l) (conses _ _ _ _ (heads _ _ _ _ f) (body_same _ _ x y h k (tails _ _ _ _ f)))

-- bytes with an escape that doesn't exist mean no text
pub escape_clash : (a t b u x y : List ℕ) (c : ℕ) → IsTextOf a t → IsTextOf b u → a ++ 92 ∷ c ∷ x ≡ b ++ 34 ∷ y → escaped c ≡ None → ⊥
escape_clash a t b u x y c nothing nothing e n = quote_no_backslash 34 92 refl refl (sym (heads _ _ _ _ e))
escape_clash a t b u x y c nothing (plain p h) e n = plain_no_backslash _ p (sym (heads _ _ _ _ e))
escape_clash a t b u x y c nothing (escape p h) e n = escaped_clash _ _ _ n p (heads _ _ _ _ (tails _ _ _ _ e))
escape_clash a t b u x y c (plain p h) nothing e n = plain_no_quote _ p (heads _ _ _ _ e)
escape_clash a t b u x y c (escape p h) nothing e n = quote_no_backslash 34 92 refl refl (sym (heads _ _ _ _ e))
escape_clash a t b u x y c (plain p h) (plain o k) e n = escape_clash _ _ _ _ x y c h k (tails _ _ _ _ e) n
escape_clash a t b u x y c (plain p h) (escape o k) e n = plain_no_backslash _ p (heads _ _ _ _ e)
escape_clash a t b u x y c (escape p h) (plain o k) e n = plain_no_backslash _ o (sym (heads _ _ _ _ e))
escape_clash a t b u x y c (escape p h) (escape o k) e n = escape_clash _ _ _ _ x y c h k (tails _ _ _ _ (tails _ _ _ _ e)) n
