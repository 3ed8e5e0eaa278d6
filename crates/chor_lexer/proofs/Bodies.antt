-- Going along a text.
use Rattle.std.proofs.Common.{◌≡◌, ◌≤◌, ◌-◌, ◌⊎◌, ℕ, true, List, [], ◌∷◌, ◌++◌, length, drop, Option, Some, None, refl, sym, ap, ◌∙◌, subst, arith, inl, inr, append_assoc, length-append}
use Rattle.std.proofs.lemmas.List.{append-nil}
use Rattle.chor_lexer.specs.Text.{is_plain, escaped, IsTextOf, nothing, plain, escape, IsBody, empty, one, two, IsUnclosed}
use Rattle.chor_lexer.specs.Cut.{EndsLine}
use Rattle.chor_lexer.specs.declared.text.Part.{Part}
use Rattle.chor_lexer.specs.declared.text.Part.TheVariants.{Quote, LineEnd, Plain, Escape}
use Rattle.chor_lexer.specs.Scan.{IsPart, ClosesAt, FailsAt, IsMeant}
use Rattle.chor_lexer.proofs.Texts.{heads, tails, text_body, plain_no_quote, plain_no_backslash, plain_no_feed, quote_no_backslash, escaped_clash}

pub body-append : (a b : List ℕ) → IsBody a → IsBody b → IsBody (a ++ b)
body-append a b empty k = k
body-append a b (one p h) k = one p (body-append _ b h k)
body-append a b (two p h) k = two p (body-append _ b h k)

text-append : (a b t u : List ℕ) → IsTextOf a t → IsTextOf b u → IsTextOf (a ++ b) (t ++ u)
text-append a b t u nothing k = k
text-append a b t u (plain p h) k = plain p (text-append _ b _ u h k)
text-append a b t u (escape p h) k = escape p (text-append _ b _ u h k)

-- one part more is passed
moved : (bytes front rest part after : List ℕ) → bytes ≡ front ++ rest → rest ≡ part ++ after → bytes ≡ (front ++ part) ++ after
moved bytes front rest part after e f = e ∙ ap (λ (l : List ℕ). front ++ l) f ∙ sym (append_assoc front part after)

-- ---- the quote that closes

nil_append : (front rest : List ℕ) (b : ℕ) → [] ≡ front ++ b ∷ rest → ⊥
nil_append [] rest b e = absurd cc
nil_append (c ∷ front) rest b e = absurd cc

unclosed_plain : (b : ℕ) (bs : List ℕ) → is_plain b ≡ true → IsUnclosed bs → IsUnclosed (b ∷ bs)
unclosed_plain b bs p h body rest e empty = plain_no_quote b p (heads _ _ _ _ e)
unclosed_plain b bs p h body rest e (one o k) = h _ rest (tails _ _ _ _ e) k
unclosed_plain b bs p h body rest e (two o k) = plain_no_backslash b p (heads _ _ _ _ e)

unclosed_escape : (b : ℕ) (bs : List ℕ) → IsUnclosed bs → IsUnclosed (92 ∷ b ∷ bs)
unclosed_escape b bs h body rest e empty = quote_no_backslash 34 92 refl refl (sym (heads _ _ _ _ e))
unclosed_escape b bs h body rest e (one o k) = plain_no_backslash _ o (sym (heads _ _ _ _ e))
unclosed_escape b bs h body rest e (two o k) = h _ rest (tails _ _ _ _ (tails _ _ _ _ e)) k

backslash_unclosed : (bs : List ℕ) → EndsLine bs → IsUnclosed (92 ∷ bs)
backslash_unclosed bs h body rest e empty = quote_no_backslash 34 92 refl refl (sym (heads _ _ _ _ e))
backslash_unclosed bs h body rest e (one o k) = plain_no_backslash _ o (sym (heads _ _ _ _ e))
backslash_unclosed bs h body rest e (two o k) = o (subst EndsLine (tails _ _ _ _ e) h)

ends_unclosed : (bs : List ℕ) → EndsLine bs → IsUnclosed bs
ends_unclosed [] h body rest e k = nil_append body rest 34 e
ends_unclosed (b ∷ bs) h body rest e empty = let q : b ≡ 34 = heads _ _ _ _ e in absurd (omega arith)
ends_unclosed (b ∷ bs) h body rest e (one o k) = plain_no_feed _ o (sym (heads _ _ _ _ e) ∙ h)
ends_unclosed (b ∷ bs) h body rest e (two o k) = let q : b ≡ 92 = heads _ _ _ _ e in absurd (omega arith)

pub end_unclosed : (bs : List ℕ) → IsPart bs LineEnd → IsUnclosed bs
end_unclosed bs h = elim h [ inl e ↦ ends_unclosed bs e | inr e ↦ subst IsUnclosed (sym e.0) (backslash_unclosed (drop 1 bs) e.1) ]

-- a part of a body is passed, and nothing before the rest closes
pub record Passed (bytes rest : List ℕ) : Type 0 where
  pub front : List ℕ
  pub parts : bytes ≡ front ++ rest
  pub is : IsBody front
  pub open_still : IsUnclosed rest → IsUnclosed bytes

pub passed_none : (bytes : List ℕ) → Passed bytes bytes
passed_none bytes = record { front = []; parts = refl; is = empty; open_still = λ h. h }

pub passed_plain : (bytes rest : List ℕ) (b : ℕ) → Passed bytes rest → IsPart rest (Plain b) → Passed bytes (drop 1 rest)
passed_plain bytes rest b p h = record {
  front = p.front ++ b ∷ [];
  parts = moved bytes p.front rest (b ∷ []) (drop 1 rest) p.parts h.0;
  is = body-append p.front (b ∷ []) p.is (one h.1 empty);
  open_still = λ u. p.open_still (subst IsUnclosed (sym h.0) (unclosed_plain b (drop 1 rest) h.1 u));
}

pub passed_escape : (bytes rest : List ℕ) (m : Option ℕ) → Passed bytes rest → IsPart rest (Escape m) → Passed bytes (drop 2 rest)
passed_escape bytes rest m p h = record {
  front = p.front ++ 92 ∷ h.0 ∷ [];
  parts = moved bytes p.front rest (92 ∷ h.0 ∷ []) (drop 2 rest) p.parts h.1;
  is = body-append p.front (92 ∷ h.0 ∷ []) p.is (two h.2 empty);
  open_still = λ u. p.open_still (subst IsUnclosed (sym h.1) (unclosed_escape h.0 (drop 2 rest) u));
}

counted : (bytes front rest : List ℕ) → bytes ≡ front ++ rest → length front ≡ length bytes - length rest
counted bytes front rest e = omega (arith, ap length e, length-append front rest)

pub passed_quote : (bytes rest : List ℕ) → Passed bytes rest → IsPart rest Quote → ClosesAt bytes (length bytes - length rest)
passed_quote bytes rest p h = record {
  body = p.front;
  rest = drop 1 rest;
  parts = p.parts ∙ ap (λ (l : List ℕ). p.front ++ l) h;
  count = counted bytes p.front rest p.parts;
  is = p.is;
}

pub passed_end : (bytes rest : List ℕ) → Passed bytes rest → IsPart rest LineEnd → IsUnclosed bytes
passed_end bytes rest p h = p.open_still (end_unclosed rest h)

-- ---- the first escape that doesn't exist

body_after_plain : (l r : List ℕ) (b : ℕ) → IsBody l → l ≡ b ∷ r → is_plain b ≡ true → IsBody r
body_after_plain l r b empty e p = absurd cc
body_after_plain l r b (one o k) e p = subst IsBody (tails _ _ _ _ e) k
body_after_plain l r b (two o k) e p = absurd (plain_no_backslash b p (sym (heads _ _ _ _ e)))

body_after_escape : (l r : List ℕ) (b : ℕ) → IsBody l → l ≡ 92 ∷ b ∷ r → IsBody r
body_after_escape l r b empty e = absurd cc
body_after_escape l r b (one o k) e = absurd (plain_no_backslash _ o (heads _ _ _ _ e))
body_after_escape l r b (two o k) e = subst IsBody (tails _ _ _ _ (tails _ _ _ _ e)) k

body_no_quote : (l r : List ℕ) → IsBody l → l ≡ 34 ∷ r → ⊥
body_no_quote l r empty e = absurd cc
body_no_quote l r (one o k) e = plain_no_quote _ o (heads _ _ _ _ e)
body_no_quote l r (two o k) e = quote_no_backslash 34 92 refl refl (sym (heads _ _ _ _ e))

body_no_feed : (l : List ℕ) → IsBody l → EndsLine l → 1 ≤ length l → ⊥
body_no_feed l empty h n = absurd (omega arith)
body_no_feed l (one o k) h n = plain_no_feed _ o h
body_no_feed l (two o k) h n = absurd (omega arith)

body_no_backslash : (l r : List ℕ) → IsBody l → l ≡ 92 ∷ r → EndsLine r → ⊥
body_no_backslash l r empty e h = absurd cc
body_no_backslash l r (one o k) e h = plain_no_backslash _ o (heads _ _ _ _ e)
body_no_backslash l r (two o k) e h = o (subst EndsLine (sym (tails _ _ _ _ e)) h)

pub body_no_end : (l : List ℕ) → IsBody l → IsPart l LineEnd → 1 ≤ length l → ⊥
body_no_end l k h n = elim h [ inl e ↦ body_no_feed l k e n | inr e ↦ body_no_backslash l (drop 1 l) k e.0 e.1 ]

-- a part that means some text is passed, and a body is left
pub record Followed (body rest : List ℕ) : Type 0 where
  pub front : List ℕ
  pub text : List ℕ
  pub parts : body ≡ front ++ rest
  pub is : IsTextOf front text
  pub after : IsBody rest

pub followed_none : (body : List ℕ) → IsBody body → Followed body body
followed_none body h = record { front = []; text = []; parts = refl; is = nothing; after = h }

pub followed_plain : (body rest : List ℕ) (b : ℕ) → Followed body rest → IsPart rest (Plain b) → Followed body (drop 1 rest)
followed_plain body rest b p h = record {
  front = p.front ++ b ∷ [];
  text = p.text ++ b ∷ [];
  parts = moved body p.front rest (b ∷ []) (drop 1 rest) p.parts h.0;
  is = text-append p.front (b ∷ []) p.text (b ∷ []) p.is (plain h.1 nothing);
  after = body_after_plain rest (drop 1 rest) b p.after h.0 h.1;
}

pub followed_escape : (body rest : List ℕ) (c : ℕ) → Followed body rest → IsPart rest (Escape (Some c)) → Followed body (drop 2 rest)
followed_escape body rest c p h = record {
  front = p.front ++ 92 ∷ h.0 ∷ [];
  text = p.text ++ c ∷ [];
  parts = moved body p.front rest (92 ∷ h.0 ∷ []) (drop 2 rest) p.parts h.1;
  is = text-append p.front (92 ∷ h.0 ∷ []) p.text (c ∷ []) p.is (escape h.3 nothing);
  after = body_after_escape rest (drop 2 rest) h.0 p.after h.1;
}

pub followed_wrong : (body rest : List ℕ) → Followed body rest → IsPart rest (Escape None) → FailsAt body (length body - length rest)
followed_wrong body rest p h = record {
  front = p.front;
  text = p.text;
  byte = h.0;
  back = drop 2 rest;
  parts = p.parts ∙ ap (λ (l : List ℕ). p.front ++ l) h.1;
  count = counted body p.front rest p.parts;
  before = p.is;
  wrong = h.3;
  line = h.2;
  after = body_after_escape rest (drop 2 rest) h.0 p.after h.1;
}

pub followed_all : (body rest : List ℕ) → Followed body rest → length rest ≡ 0 → IsMeant body
followed_all body [] p e = record { text = p.text; is = subst (λ (l : List ℕ). IsTextOf l p.text) (sym (p.parts ∙ append-nil p.front)) p.is }
followed_all body (b ∷ rest) p e = absurd (omega arith)

pub followed_on : (body rest : List ℕ) (part : Part) → Followed body rest → IsPart rest part → (part ≡ Quote) ⊎ (part ≡ LineEnd) → 1 ≤ length rest → ⊥
followed_on body rest part p h e n = elim e [
  | inl q ↦ body_no_quote rest (drop 1 rest) p.after (subst (IsPart rest) q h)
  | inr q ↦ body_no_end rest p.after (subst (IsPart rest) q h) n
]

-- ---- the text

meant_after_plain : (l r t : List ℕ) (b : ℕ) → IsTextOf l t → l ≡ b ∷ r → is_plain b ≡ true → IsMeant r
meant_after_plain l r t b nothing e p = absurd cc
meant_after_plain l r t b (plain {text = u} o k) e p = record { text = u; is = subst (λ (x : List ℕ). IsTextOf x u) (tails _ _ _ _ e) k }
meant_after_plain l r t b (escape o k) e p = absurd (plain_no_backslash b p (sym (heads _ _ _ _ e)))

meant_after_escape : (l r t : List ℕ) (b : ℕ) → IsTextOf l t → l ≡ 92 ∷ b ∷ r → IsMeant r
meant_after_escape l r t b nothing e = absurd cc
meant_after_escape l r t b (plain o k) e = absurd (plain_no_backslash _ o (heads _ _ _ _ e))
meant_after_escape l r t b (escape {text = u} o k) e = record { text = u; is = subst (λ (x : List ℕ). IsTextOf x u) (tails _ _ _ _ (tails _ _ _ _ e)) k }

meant_no_wrong : (l r t : List ℕ) (b : ℕ) → IsTextOf l t → l ≡ 92 ∷ b ∷ r → escaped b ≡ None → ⊥
meant_no_wrong l r t b nothing e n = absurd cc
meant_no_wrong l r t b (plain o k) e n = plain_no_backslash _ o (heads _ _ _ _ e)
meant_no_wrong l r t b (escape o k) e n = escaped_clash b _ _ n o (sym (heads _ _ _ _ (tails _ _ _ _ e)))

-- a part that means this text is passed, and what is left means some text
pub record Gathered (body rest text : List ℕ) : Type 0 where
  pub front : List ℕ
  pub parts : body ≡ front ++ rest
  pub is : IsTextOf front text
  pub after : IsMeant rest

pub gathered_none : (body : List ℕ) → IsMeant body → Gathered body body []
gathered_none body h = record { front = []; parts = refl; is = nothing; after = h }

pub gathered_plain : (body rest text : List ℕ) (b : ℕ) → Gathered body rest text → IsPart rest (Plain b) → Gathered body (drop 1 rest) (text ++ b ∷ [])
gathered_plain body rest text b p h = record {
  front = p.front ++ b ∷ [];
  parts = moved body p.front rest (b ∷ []) (drop 1 rest) p.parts h.0;
  is = text-append p.front (b ∷ []) text (b ∷ []) p.is (plain h.1 nothing);
  after = meant_after_plain rest (drop 1 rest) p.after.text b p.after.is h.0 h.1;
}

pub gathered_escape : (body rest text : List ℕ) (c : ℕ) → Gathered body rest text → IsPart rest (Escape (Some c)) → Gathered body (drop 2 rest) (text ++ c ∷ [])
gathered_escape body rest text c p h = record {
  front = p.front ++ 92 ∷ h.0 ∷ [];
  parts = moved body p.front rest (92 ∷ h.0 ∷ []) (drop 2 rest) p.parts h.1;
  is = text-append p.front (92 ∷ h.0 ∷ []) text (c ∷ []) p.is (escape h.3 nothing);
  after = meant_after_escape rest (drop 2 rest) p.after.text h.0 p.after.is h.1;
}

pub gathered_all : (body rest text : List ℕ) → Gathered body rest text → length rest ≡ 0 → IsTextOf body text
gathered_all body [] text p e = subst (λ (l : List ℕ). IsTextOf l text) (sym (p.parts ∙ append-nil p.front)) p.is
gathered_all body (b ∷ rest) text p e = absurd (omega arith)

pub gathered_no_quote : (body rest text : List ℕ) → Gathered body rest text → IsPart rest Quote → ⊥
gathered_no_quote body rest text p h = body_no_quote rest (drop 1 rest) (text_body rest p.after.text p.after.is) h

pub gathered_no_end : (body rest text : List ℕ) → Gathered body rest text → IsPart rest LineEnd → 1 ≤ length rest → ⊥
gathered_no_end body rest text p h n = body_no_end rest (text_body rest p.after.text p.after.is) h n

pub gathered_no_wrong : (body rest text : List ℕ) → Gathered body rest text → IsPart rest (Escape None) → ⊥
gathered_no_wrong body rest text p h = meant_no_wrong rest (drop 2 rest) p.after.text h.0 p.after.is h.1 h.3
