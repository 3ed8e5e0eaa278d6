-- All bytes have tokens or are refused: what stands at the front of the rest is found by going along it.
use Rattle.std.proofs.Common.{◌≡◌, ◌≢◌, ◌<◌, ◌≤◌, ◌+◌, ◌^◌, ◌⊎◌, inl, inr, suc, zero, ℕ, pos, true, List, [], ◌∷◌, ◌++◌, length, take, drop, Some, None, refl, sym, ap, ◌∙◌, arith, length-append, length-drop}
use Rattle.std.proofs.lemmas.Bool.Decides.{nat_tests}
use Rattle.std.proofs.lemmas.Str.{IsUtf8-from_is_utf8, is_utf8-from_IsUtf8}
use Rattle.std.specs.Char.{is_ascii_digit}
use Rattle.std.specs.List.{prefix_len}
use Rattle.std.specs.Str.{IsUtf8, is_utf8}
use Rattle.std.specs.Str.Parse.{digits_value}
use Rattle.chor_base.specs.declared.rule.Place.{Place}
use Rattle.chor_base.specs.declared.rule.Rule.{Rule}
use Rattle.chor_base.specs.declared.rule.Rule.TheVariants.{L1, L2, L3, L4, L5}
use Rattle.chor_lexer.specs.declared.mark.Mark.{Mark}
use Rattle.chor_lexer.specs.declared.scan.Form.{Form}
use Rattle.chor_lexer.specs.declared.scan.Form.TheVariants as form
use Rattle.chor_lexer.specs.declared.text.Part.{Part}
use Rattle.chor_lexer.specs.declared.text.Part.TheVariants.{Quote, LineEnd, Plain, Escape}
use Rattle.chor_lexer.specs.Mark.{spelling}
use Rattle.chor_lexer.specs.Text.{is_plain, escaped, IsUnclosed}
use Rattle.chor_lexer.specs.Lexeme.{last, Lexeme, is_letter, is_word_byte}
use Rattle.chor_lexer.specs.Cut.{is_space, is_line_byte, start, IsBlank, IsCut, here}
use Rattle.chor_lexer.specs.Tokens.{IsTokens}
use Rattle.chor_lexer.specs.Refusal.{IsFault, Refuses, malformed, faulty}
use Rattle.chor_lexer.specs.Scan.{IsNextOf, Begins, IsPart, ClosesAt, FailsAt, IsMeant}
use Rattle.chor_lexer.proofs.Tested.{either, sized, same}
use Rattle.chor_lexer.proofs.Fronts.{IsMark, single, double, mark_is, mark_written}
use Rattle.chor_lexer.proofs.Bodies.{Passed, passed_none, passed_plain, passed_escape, passed_quote, passed_end, Followed, followed_none, followed_plain, followed_escape, followed_wrong, followed_on, followed_all}
use Rattle.chor_lexer.proofs.Pieces.{IsOther, word_next, word_fault, number_next, number_fault, text_next, body_is, open_fault, long_fault, escape_fault, double_next, single_next, mark_fault, space_is, comment_within, comment_is}
use Rattle.chor_lexer.proofs.Cuts.{cut_blank, cut_token}

-- ---- texts

plain_byte : (b : ℕ) → b ≢ 34 → b ≢ 10 → b ≢ 92 → is_plain b ≡ true
plain_byte b q l s = grind (arith, nat_tests)

escape_at : (b : ℕ) (bs : List ℕ) → b ≡ 92 → (part : Part) × IsPart (b ∷ bs) part
escape_at b [] e = (LineEnd, inr (ap (λ (x : ℕ). x ∷ []) e, tt))
escape_at b (c ∷ bs) e = elim (same c 10) [
  | inl f ↦ (LineEnd, inr (ap (λ (x : ℕ). x ∷ c ∷ bs) e, f))
  | inr n ↦ (Escape (escaped c), (c, ap (λ (x : ℕ). x ∷ c ∷ bs) e, n, refl))
]

part_at : (bs : List ℕ) → (part : Part) × IsPart bs part
part_at [] = (LineEnd, inl tt)
part_at (b ∷ bs) = elim (same b 34) [
  | inl e ↦ (Quote, ap (λ (x : ℕ). x ∷ bs) e)
  | inr q ↦ elim (same b 10) [
    | inl e ↦ (LineEnd, inl e)
    | inr l ↦ elim (same b 92) [ inl e ↦ escape_at b bs e | inr s ↦ (Plain b, (refl, plain_byte b q l s)) ]
  ]
]

-- a quote that closes the text, or none
abbrev Closing : List ℕ → Type 0
Closing bytes = ((n : ℕ) × ClosesAt bytes n) ⊎ IsUnclosed bytes

closing_on : (bytes rest : List ℕ) → ((after : List ℕ) → length after < length rest → Passed bytes after → Closing bytes) → Passed bytes rest → (part : Part) → IsPart rest part → Closing bytes
closing_on bytes rest go_on p Quote h = inl (_, passed_quote bytes rest p h)
closing_on bytes rest go_on p LineEnd h = inr (passed_end bytes rest p h)
closing_on bytes rest go_on p (Plain b) h = go_on (drop 1 rest) (omega (arith, ap length h.0)) (passed_plain bytes rest b p h)
closing_on bytes rest go_on p (Escape m) h = go_on (drop 2 rest) (omega (arith, ap length h.1)) (passed_escape bytes rest m p h)

closing : (bytes : List ℕ) (n : ℕ) (rest : List ℕ) → length rest < n → Passed bytes rest → Closing bytes
closing bytes zero rest h p = absurd (omega arith)
closing bytes (suc n) rest h p = let found = part_at rest in closing_on bytes rest (λ after l q. closing bytes n after (omega arith) q) p found.0 found.1

-- an escape that doesn't exist, or none
abbrev Meaning : List ℕ → Type 0
Meaning body = ((n : ℕ) × FailsAt body n) ⊎ IsMeant body

meaning_on : (body rest : List ℕ) → 1 ≤ length rest → ((after : List ℕ) → length after < length rest → Followed body after → Meaning body) → Followed body rest → (part : Part) → IsPart rest part → Meaning body
meaning_on body rest some go_on p Quote h = absurd (followed_on body rest Quote p h (inl refl) some)
meaning_on body rest some go_on p LineEnd h = absurd (followed_on body rest LineEnd p h (inr refl) some)
meaning_on body rest some go_on p (Plain b) h = go_on (drop 1 rest) (omega (arith, ap length h.0)) (followed_plain body rest b p h)
meaning_on body rest some go_on p (Escape None) h = inl (_, followed_wrong body rest p h)
meaning_on body rest some go_on p (Escape (Some c)) h = go_on (drop 2 rest) (omega (arith, ap length h.1)) (followed_escape body rest c p h)

meaning : (body : List ℕ) (n : ℕ) (rest : List ℕ) → length rest < n → Followed body rest → Meaning body
meaning body zero rest h p = absurd (omega arith)
meaning body (suc n) [] h p = inr (followed_all body [] p refl)
meaning body (suc n) (b ∷ rest) h p = let found = part_at (b ∷ rest) in meaning_on body (b ∷ rest) (omega arith) (λ after l q. meaning body n after (omega arith) q) p found.0 found.1

-- ---- what stands at the front

data Front (bs : List ℕ) : Type 0 where
  a_blank : (n : ℕ) → 1 ≤ n → n ≤ length bs → IsBlank (take n bs) (drop n bs) → Front bs
  a_token : (f : Form) (n : ℕ) → IsNextOf f bs n → Front bs
  a_fault : (rule : Rule) (n : ℕ) → IsFault bs rule n → Front bs

begins : (P : ℕ → Type 0) (b : ℕ) (bs : List ℕ) → P b → Begins (b ∷ bs) P
begins P b bs h = record { first = b; rest = bs; parts = refl; holds = h }

word_front : (b : ℕ) (bs : List ℕ) → is_letter b ≡ true → Front (b ∷ bs)
word_front b bs h =
    let n = prefix_len is_word_byte (b ∷ bs) in
    let at = begins (λ c. is_letter c ≡ true) b bs h in
    elim (sized n 64) [ inl few ↦ a_token form.Word n (word_next (b ∷ bs) n at refl few) | inr many ↦ a_fault L5 0 (word_fault (b ∷ bs) n at refl many) ]

number_front : (b : ℕ) (bs : List ℕ) → is_ascii_digit b ≡ true → Front (b ∷ bs)
number_front b bs h =
    let n = prefix_len is_ascii_digit (b ∷ bs) in
    let digits = take n (b ∷ bs) in
    let at = begins (λ c. is_ascii_digit c ≡ true) b bs h in
    elim (sized (2 ^ 63) (digits_value 10 digits)) [
      | inl great ↦ a_fault L3 0 (number_fault (b ∷ bs) digits n at refl refl great)
      | inr small ↦ a_token (form.Number (pos (digits_value 10 digits))) n (number_next (b ∷ bs) digits n (pos (digits_value 10 digits)) at refl refl refl small)
    ]

text_front : (b : ℕ) (bs : List ℕ) → b ≡ 34 → Front (b ∷ bs)
text_front b bs e = elim (closing bs (suc (length bs)) bs (omega arith) (passed_none bs)) [ inl c ↦ closed c.0 c.1 | inr u ↦ a_fault L2 0 (open_fault (b ∷ bs) bs at refl u) ]
  where
    at : Begins (b ∷ bs) (λ c. c ≡ 34)
    at = begins (λ c. c ≡ 34) b bs e

    meant : (n : ℕ) → ClosesAt bs n → n ≤ 256 → Meaning (take n bs) → Front (b ∷ bs)
    meant n c few (inl f) = a_fault L1 (1 + f.0) (escape_fault (b ∷ bs) bs (take n bs) n f.0 at refl c few refl f.1)
    meant n c few (inr m) = a_token form.Text (n + 2) (text_next (b ∷ bs) bs (take n bs) n at refl c few refl m)

    closed : (n : ℕ) → ClosesAt bs n → Front (b ∷ bs)
    closed n c = elim (sized n 256) [
      | inl few ↦ meant n c few (meaning (take n bs) (suc (length (take n bs))) (take n bs) (omega arith) (followed_none (take n bs) (body_is bs (take n bs) n c refl)))
      | inr many ↦ a_fault L5 0 (long_fault (b ∷ bs) bs n at refl c many)
    ]

-- no mark of two bytes stands at the front
abbrev NoDouble : List ℕ → Type 0
NoDouble bs = (m : Mark) (u : List ℕ) → bs ≡ spelling m ++ u → length (spelling m) ≤ 1

no_double : (b c : ℕ) (bs : List ℕ) → ((m : Mark) → spelling m ≢ b ∷ c ∷ []) → NoDouble (b ∷ c ∷ bs)
no_double b c bs none m u q = go (spelling m) refl (mark_is m) q
  where
    go : (w : List ℕ) → spelling m ≡ w → IsMark w → b ∷ c ∷ bs ≡ w ++ u → length w ≤ 1
    go w e (single x h) p = omega arith
    go w e (double x y h) p = let first : b ≡ x = cc in let second : c ≡ y = cc in absurd (none m (e ∙ (λ i. sym first i ∷ sym second i ∷ [])))

one_byte : (b : ℕ) (bs : List ℕ) → IsOther b → ((rest : List ℕ) → b ∷ bs ≢ 47 ∷ 47 ∷ rest) → NoDouble (b ∷ bs) → Front (b ∷ bs)
one_byte b bs other unslashed few = elim (mark_written (b ∷ [])) [
  | inl m ↦ a_token (form.Mark m.0) 1 (single_next (b ∷ bs) m.0 (begins IsOther b bs other) unslashed m.1 few)
  | inr none ↦ a_fault L1 0 (mark_fault (b ∷ bs) (begins IsOther b bs other) unslashed none few)
]

mark_front : (b : ℕ) (bs : List ℕ) → IsOther b → ((rest : List ℕ) → b ∷ bs ≢ 47 ∷ 47 ∷ rest) → Front (b ∷ bs)
mark_front b [] other unslashed = one_byte b [] other unslashed (λ m u q. omega (arith, ap length q, length-append (spelling m) u))
mark_front b (c ∷ bs) other unslashed = elim (mark_written (b ∷ c ∷ [])) [
  | inl m ↦ a_token (form.Mark m.0) 2 (double_next (b ∷ c ∷ bs) m.0 (begins IsOther b (c ∷ bs) other) unslashed (ap length m.1) (ap (λ (l : List ℕ). l ++ bs) (sym m.1)))
  | inr none ↦ one_byte b (c ∷ bs) other unslashed (no_double b c bs none)
]

slashes : (bs : List ℕ) → ((rest : List ℕ) × (bs ≡ 47 ∷ 47 ∷ rest)) ⊎ ((rest : List ℕ) → bs ≢ 47 ∷ 47 ∷ rest)
slashes [] = inr (λ rest e. absurd cc)
slashes (b ∷ []) = inr (λ rest e. absurd cc)
slashes (b ∷ c ∷ bs) = elim (same b 47) [
  | inl e ↦ elim (same c 47) [ inl f ↦ inl (bs, (λ i. e i ∷ f i ∷ bs)) | inr n ↦ inr (λ rest q. n (cc)) ]
  | inr n ↦ inr (λ rest q. n (cc))
]

front : (b : ℕ) (bs : List ℕ) → Front (b ∷ bs)
front b bs = elim (slashes (b ∷ bs)) [
  | inl c ↦ a_blank (2 + prefix_len is_line_byte c.0) (omega arith) (comment_within (b ∷ bs) c.0 _ refl c.1) (comment_is (b ∷ bs) c.0 _ refl c.1)
  | inr unslashed ↦ elim (either (is_space b)) [
    | inl s ↦ a_blank 1 (omega arith) (omega arith) (space_is (b ∷ bs) (omega arith) s)
    | inr s ↦ elim (either (is_letter b)) [
      | inl l ↦ word_front b bs l
      | inr l ↦ elim (either (is_ascii_digit b)) [
        | inl d ↦ number_front b bs d
        | inr d ↦ elim (same b 34) [ inl q ↦ text_front b bs q | inr q ↦ mark_front b bs (s, l, d, q) unslashed ]
      ]
    ]
  ]
]

-- ---- all bytes

abbrev Outcome : List ℕ → Type 0
Outcome bytes = ((ls : List Lexeme) × IsTokens bytes ls) ⊎ ((rule : Rule) × (place : Place) × Refuses bytes rule place)

-- one piece is cut off, or there is a fault
one_more : (bytes rest : List ℕ) (p : Place) (ls : List Lexeme) → IsUtf8 bytes → ((after : List ℕ) (q : Place) (ms : List Lexeme) → length after < length rest → IsCut bytes start ms after q → Outcome bytes) → IsCut bytes start ls rest p → Front rest → Outcome bytes
one_more bytes rest p ls u go_on c (a_blank n some few is) = go_on (drop n rest) _ _ (omega (arith, length-drop n rest)) (cut_blank bytes rest p ls n c is)
one_more bytes rest p ls u go_on c (a_token f n x) = go_on (drop n rest) _ _ (omega (arith, length-drop n rest, x.some, x.within)) (cut_token bytes rest p ls n x.symbol c x.next)
one_more bytes rest p ls u go_on c (a_fault rule n f) = inr (rule, _, faulty u c f)

all_cut : (bytes : List ℕ) → IsUtf8 bytes → (n : ℕ) (rest : List ℕ) (p : Place) (ls : List Lexeme) → length rest < n → IsCut bytes start ls rest p → Outcome bytes
all_cut bytes u zero rest p ls h c = absurd (omega arith)
all_cut bytes u (suc n) [] p ls h c = inl (ls ++ record { symbol = last; place = p } ∷ [], record { utf8 = u; front = ls; next = p; cut = c; whole = refl })
all_cut bytes u (suc n) (b ∷ bs) p ls h c = one_more bytes (b ∷ bs) p ls u (λ after q ms l d. all_cut bytes u n after q ms (omega arith) d) c (front b bs)

pub one_or_the_other : (bytes : List ℕ) → ((ls : List Lexeme) × IsTokens bytes ls) ⊎ ((rule : Rule) × (place : Place) × Refuses bytes rule place)
one_or_the_other bytes = elim (either (is_utf8 bytes)) [
  | inl e ↦ all_cut bytes (IsUtf8-from_is_utf8 bytes e) (suc (length bytes)) bytes start [] (omega arith) here
  | inr e ↦ inr (L4, _, malformed (λ u. let yes = is_utf8-from_IsUtf8 bytes u in absurd cc))
]
