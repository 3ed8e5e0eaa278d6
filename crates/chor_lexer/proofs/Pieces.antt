-- The longest token at the front, or why there is none.
use Rattle.std.proofs.Common.{◌≡◌, ◌≢◌, ◌<◌, ◌≤◌, ◌+◌, ◌-◌, ◌*◌, ◌^◌, ℕ, suc, zero, Bool, true, false, List, [], ◌∷◌, ◌++◌, length, take, drop, get_or, ℤ, pos, refl, sym, ap, ◌∙◌, subst, arith, take-append-drop, length-take-le, append_assoc, length-append}
use Rattle.std.proofs.lemmas.List.{take_at, drop_at}
use Rattle.std.proofs.lemmas.Int.{ints, to_z-of_z}
use mir.Val.{to_z, of_z}
use mir.Syntax.{w64}
use Rattle.std.proofs.lemmas.Int.Digits.{digits_value_more}
use Rattle.std.proofs.lemmas.Str.Parse.{digits_value-take-le}
use Rattle.std.proofs.lemmas.Bool.Decides.{nat_tests}
use Rattle.std.specs.Char.{is_ascii_digit, digit_value}
use Rattle.std.specs.List.{prefix_len}
use Rattle.std.specs.Str.Parse.{digits_value}
use Rattle.chor_base.specs.declared.rule.Rule.TheVariants.{L1, L2, L3, L5}
use Rattle.chor_lexer.specs.declared.mark.Mark.{Mark}
use Rattle.chor_lexer.specs.declared.scan.Form.{Form}
use Rattle.chor_lexer.specs.declared.scan.Form.TheVariants as form
use Rattle.chor_lexer.specs.Mark.{spelling}
use Rattle.chor_lexer.specs.Text.{IsTextOf, IsBody, IsUnclosed}
use Rattle.chor_lexer.specs.Lexeme.{Symbol, word, number, text, mark, IsLexeme, is_word, is_number, is_text, is_mark, is_letter, is_word_byte, IsLongest, NoLexeme}
use Rattle.chor_lexer.specs.Cut.{is_space, is_line_byte, EndsLine, IsBlank, space, comment, NoBlank, IsNext}
use Rattle.chor_lexer.specs.Refusal.{IsFault, no_token, wrong_escape, open_text, great_number, long_word, long_text}
use Rattle.chor_lexer.specs.Scan.{HasForm, IsNextOf, Begins, ClosesAt, FailsAt, IsMeant}
use Rattle.chor_lexer.proofs.Runs.{Passes, IsRun, run_of}
use Rattle.chor_lexer.proofs.Texts.{heads, tails, text_body, body_same}
use Rattle.chor_lexer.proofs.Fronts.{byte_class, symbol_class, letter_class, digit_class, other_class, letter_is_word_byte, IsMark, single, double, mark_is, lexeme_class, lexeme_long, class_no_blank}

-- ---- numbers

pass_at : (p : ℕ → Bool) (xs : List ℕ) (i : ℕ) → Passes p xs → i < length xs → p (get_or xs i 0) ≡ true
pass_at p [] i h n = absurd (omega arith)
pass_at p (x ∷ xs) zero h n = h.0
pass_at p (x ∷ xs) (suc i) h n = pass_at p xs i h.1 (omega arith)

pub next_value : (ds : List ℕ) (i value : ℕ) → i < length ds → Passes is_ascii_digit ds → value ≡ digits_value 10 (take i ds) → digits_value 10 (take (i + 1) ds) ≡ value * 10 + (get_or ds i 0 - 48)
next_value ds i value inside digits so_far =
    let digit = pass_at is_ascii_digit ds i digits inside in
    let worth : digit_value (get_or ds i 0) ≡ get_or ds i 0 - 48 = grind (arith, nat_tests) in
    rw (digits_value_more 10 ds i inside, worth, so_far)

pub next_read : (value value' digit' byte : ℕ) → value' ≡ value → digit' ≡ byte - 48 → value' * 10 + digit' ≡ value * 10 + (byte - 48)
next_read value value' digit' byte e f = cc

-- a number of 64 bits, as it is handed on
pub read_back : (z : ℤ) (n : ℕ) → z ≡ pos n → n < 2 ^ 63 → to_z w64 (of_z w64 z) ≡ pos n
read_back z n e h = ap (λ (x : ℤ). to_z w64 (of_z w64 x)) e ∙ to_z-of_z w64 (pos n) (omega (arith, ints))

pub great_value : (ds : List ℕ) (i next : ℕ) → digits_value 10 (take (i + 1) ds) ≡ next → 2 ^ 63 ≤ next → 2 ^ 63 ≤ digits_value 10 ds
great_value ds i next e h = omega (arith, digits_value-take-le 10 ds (i + 1) (omega arith))

-- ---- runs

begun : (p : ℕ → Bool) (bs rest : List ℕ) (b n : ℕ) → bs ≡ b ∷ rest → p b ≡ true → IsRun p bs n → 1 ≤ n
begun p bs rest b n e h r = let l = r.most (b ∷ []) rest e (h, tt) in omega (arith, l)

class_of : (bs rest v u : List ℕ) (b : ℕ) (t : Symbol) → bs ≡ b ∷ rest → bs ≡ v ++ u → IsLexeme t v → byte_class b ≡ symbol_class t
class_of bs rest v u b t e q l = lexeme_class t v b rest u l (sym q ∙ e)

pub word_passes : (t : Symbol) (v : List ℕ) → IsLexeme t v → 0 ≡ symbol_class t → Passes is_word_byte v
word_passes t v (is_word {c = c} s h) e = (letter_is_word_byte c s, h)
word_passes t v (is_number s h) e = absurd (omega arith)
word_passes t v (is_text s h) e = absurd (omega arith)
word_passes t v (is_mark s) e = absurd (omega arith)

pub digit_passes : (t : Symbol) (v : List ℕ) → IsLexeme t v → 1 ≡ symbol_class t → Passes is_ascii_digit v
digit_passes t v (is_word s h) e = absurd (omega arith)
digit_passes t v (is_number s h) e = (s, h)
digit_passes t v (is_text s h) e = absurd (omega arith)
digit_passes t v (is_mark s) e = absurd (omega arith)

is_run_word : (bs rest : List ℕ) (b n : ℕ) → bs ≡ b ∷ rest → is_letter b ≡ true → 1 ≤ n → IsRun is_word_byte bs n → IsLexeme (word (take n bs)) (take n bs)
is_run_word [] rest b n e h one r = absurd cc
is_run_word (c ∷ bs) rest b zero e h one r = absurd (omega arith)
is_run_word (c ∷ bs) rest b (suc n) e h one r = is_word (subst (λ (x : ℕ). is_letter x ≡ true) (sym (heads _ _ _ _ e)) h) r.passes.1

is_run_number : (bs : List ℕ) (n : ℕ) → 1 ≤ n → IsRun is_ascii_digit bs n → IsLexeme (number (digits_value 10 (take n bs))) (take n bs)
is_run_number [] zero one r = absurd (omega arith)
is_run_number [] (suc n) one r = let l = r.within in absurd (omega arith)
is_run_number (c ∷ bs) zero one r = absurd (omega arith)
is_run_number (c ∷ bs) (suc n) one r = is_number r.passes.0 r.passes.1

-- ---- words

word_longest : (bs : List ℕ) (n : ℕ) → Begins bs (λ b. is_letter b ≡ true) → IsRun is_word_byte bs n → IsLongest (word (take n bs)) (take n bs) (drop n bs) bs
word_longest bs n b r =
    let one = begun is_word_byte bs b.rest b.first n b.parts (letter_is_word_byte b.first b.holds) r in
    let len : length (take n bs) ≡ n = length-take-le n bs r.within in
    record {
      parts = sym (take-append-drop n bs);
      is = is_run_word bs b.rest b.first n b.parts b.holds one r;
      longest = λ t v u q l. let h = r.most v u q (word_passes t v l (sym (letter_class b.first b.holds) ∙ class_of bs b.rest v u b.first t b.parts q l)) in omega (arith, h, len);
    }

pub word_next : (bs : List ℕ) (n : ℕ) → Begins bs (λ b. is_letter b ≡ true) → n ≡ prefix_len is_word_byte bs → n ≤ 64 → IsNextOf form.Word bs n
word_next bs n b e few =
    let r : IsRun is_word_byte bs n = subst (IsRun is_word_byte bs) (sym e) (run_of is_word_byte bs) in
    record {
      symbol = word (take n bs);
      has = tt;
      some = begun is_word_byte bs b.rest b.first n b.parts (letter_is_word_byte b.first b.holds) r;
      within = r.within;
      next = record {
        no_blank = subst NoBlank (sym b.parts) (class_no_blank b.first b.rest (let c = letter_class b.first b.holds in omega arith));
        longest = word_longest bs n b r;
        within = omega (arith, length-take-le n bs r.within);
      };
    }

pub word_fault : (bs : List ℕ) (n : ℕ) → Begins bs (λ b. is_letter b ≡ true) → n ≡ prefix_len is_word_byte bs → 64 < n → IsFault bs L5 0
word_fault bs n b e many =
    let r : IsRun is_word_byte bs n = subst (IsRun is_word_byte bs) (sym e) (run_of is_word_byte bs) in
    long_word (word_longest bs n b r) (omega (arith, length-take-le n bs r.within))

-- ---- numbers at the front

number_longest : (bs : List ℕ) (n : ℕ) → Begins bs (λ b. is_ascii_digit b ≡ true) → IsRun is_ascii_digit bs n → IsLongest (number (digits_value 10 (take n bs))) (take n bs) (drop n bs) bs
number_longest bs n b r =
    let one = begun is_ascii_digit bs b.rest b.first n b.parts b.holds r in
    let len : length (take n bs) ≡ n = length-take-le n bs r.within in
    record {
      parts = sym (take-append-drop n bs);
      is = is_run_number bs n one r;
      longest = λ t v u q l. let h = r.most v u q (digit_passes t v l (sym (digit_class b.first b.holds) ∙ class_of bs b.rest v u b.first t b.parts q l)) in omega (arith, h, len);
    }

pub number_next : (bs digits : List ℕ) (n : ℕ) (z : ℤ) → Begins bs (λ b. is_ascii_digit b ≡ true) → n ≡ prefix_len is_ascii_digit bs → digits ≡ take n bs → z ≡ pos (digits_value 10 digits) → digits_value 10 digits < 2 ^ 63 → IsNextOf (form.Number z) bs n
number_next bs digits n z b e d v few =
    let r : IsRun is_ascii_digit bs n = subst (IsRun is_ascii_digit bs) (sym e) (run_of is_ascii_digit bs) in
    record {
      symbol = number (digits_value 10 (take n bs));
      has = v ∙ ap (λ (l : List ℕ). pos (digits_value 10 l)) d;
      some = begun is_ascii_digit bs b.rest b.first n b.parts b.holds r;
      within = r.within;
      next = record {
        no_blank = subst NoBlank (sym b.parts) (class_no_blank b.first b.rest (let c = digit_class b.first b.holds in omega arith));
        longest = number_longest bs n b r;
        within = subst (λ (l : List ℕ). digits_value 10 l < 2 ^ 63) d few;
      };
    }

pub number_fault : (bs digits : List ℕ) (n : ℕ) → Begins bs (λ b. is_ascii_digit b ≡ true) → n ≡ prefix_len is_ascii_digit bs → digits ≡ take n bs → 2 ^ 63 ≤ digits_value 10 digits → IsFault bs L3 0
number_fault bs digits n b e d many =
    let r : IsRun is_ascii_digit bs n = subst (IsRun is_ascii_digit bs) (sym e) (run_of is_ascii_digit bs) in
    great_number (number_longest bs n b r) (subst (λ (l : List ℕ). 2 ^ 63 ≤ digits_value 10 l) d many)

pub digits_pass : (bs digits : List ℕ) (n : ℕ) → n ≡ prefix_len is_ascii_digit bs → digits ≡ take n bs → Passes is_ascii_digit digits
digits_pass bs digits n e d =
    let r : IsRun is_ascii_digit bs n = subst (IsRun is_ascii_digit bs) (sym e) (run_of is_ascii_digit bs) in
    subst (Passes is_ascii_digit) (sym d) r.passes

pub digits_within : (bs : List ℕ) (n : ℕ) → n ≡ prefix_len is_ascii_digit bs → n ≤ length bs
digits_within bs n e = let r = run_of is_ascii_digit bs in omega (arith, r.within)

-- ---- texts

next_of : (f : Form) (s : Symbol) (w rest bs : List ℕ) (n : ℕ) → HasForm f s → IsNext s w rest bs → length w ≡ n → IsNextOf f bs n
next_of f s w rest bs n h next len =
    let front : take n bs ≡ w = ap (take n) next.longest.parts ∙ take_at w rest n len in
    let back : drop n bs ≡ rest = ap (drop n) next.longest.parts ∙ drop_at w rest n len in
    let one = lexeme_long s w next.longest.is in
    let P : List ℕ → Type 0 = λ w. IsNext s w rest bs in
    record {
      symbol = s;
      has = h;
      some = omega arith;
      within = omega (arith, ap length next.longest.parts, length-append w rest);
      next = subst (λ (r : List ℕ). IsNext s (take n bs) r bs) (sym back) (subst P (sym front) next);
    }

-- the body between the quotes of a text
record HasBody (v : List ℕ) : Type 0 where
  body : List ℕ
  parts : v ≡ 34 ∷ body ++ 34 ∷ []
  is : IsBody body

has_body : (t : Symbol) (v : List ℕ) → IsLexeme t v → 2 ≡ symbol_class t → HasBody v
has_body t v (is_word s h) e = absurd (omega arith)
has_body t v (is_number s h) e = absurd (omega arith)
has_body t v (is_text {body = body} s h) e = record { body = body; parts = s; is = text_body _ _ h }
has_body t v (is_mark s) e = absurd (omega arith)

closed_same : (bs body rest v u : List ℕ) → bs ≡ 34 ∷ body ++ 34 ∷ rest → IsBody body → bs ≡ v ++ u → (h : HasBody v) → body ≡ h.body
closed_same bs body rest v u e k q h =
    let both : 34 ∷ (body ++ 34 ∷ rest) ≡ 34 ∷ ((h.body ++ 34 ∷ []) ++ u) = sym e ∙ q ∙ ap (λ (l : List ℕ). l ++ u) h.parts in
    body_same body h.body rest u k h.is (tails _ _ _ _ both ∙ append_assoc h.body (34 ∷ []) u)

quoted_length : (body : List ℕ) → length (34 ∷ body ++ 34 ∷ []) ≡ length body + 2
quoted_length body = omega (arith, length-append body (34 ∷ []))

pub text_longest : (bs body rest t : List ℕ) → bs ≡ 34 ∷ body ++ 34 ∷ rest → IsTextOf body t → IsLongest (text t) (34 ∷ body ++ 34 ∷ []) rest bs
text_longest bs body rest t e h = record {
  parts = e ∙ ap (λ (l : List ℕ). 34 ∷ l) (sym (append_assoc body (34 ∷ []) rest));
  is = is_text refl h;
  longest = λ s v u q l.
      let c : byte_class 34 ≡ symbol_class s = class_of bs (body ++ 34 ∷ rest) v u 34 s e q l in
      let k = has_body s v l c in
      let same = closed_same bs body rest v u e (text_body body t h) q k in
      omega (arith, ap length same, ap length k.parts, quoted_length body, quoted_length k.body);
}

closed_whole : (bs after : List ℕ) (n : ℕ) → Begins bs (λ b. b ≡ 34) → after ≡ drop 1 bs → (c : ClosesAt after n) → bs ≡ 34 ∷ c.body ++ 34 ∷ c.rest
closed_whole bs after n b a c =
    let d : drop 1 bs ≡ b.rest = ap (drop 1) b.parts in
    b.parts ∙ ap (λ (x : ℕ). x ∷ b.rest) b.holds ∙ ap (λ (l : List ℕ). 34 ∷ l) (sym d ∙ sym a ∙ c.parts)

body_front : (after body : List ℕ) (n : ℕ) (c : ClosesAt after n) → body ≡ take n after → body ≡ c.body
body_front after body n c e = e ∙ ap (take n) c.parts ∙ take_at c.body (34 ∷ c.rest) n c.count

pub body_is : (after body : List ℕ) (n : ℕ) → ClosesAt after n → body ≡ take n after → IsBody body
body_is after body n c e = subst IsBody (sym (body_front after body n c e)) c.is

pub body_within : (after : List ℕ) (n : ℕ) → ClosesAt after n → n + 1 ≤ length after
body_within after n c = omega (arith, c.count, ap length c.parts, length-append c.body (34 ∷ c.rest))

pub text_next : (bs after body : List ℕ) (n : ℕ) → Begins bs (λ b. b ≡ 34) → after ≡ drop 1 bs → ClosesAt after n → n ≤ 256 → body ≡ take n after → IsMeant body → IsNextOf form.Text bs (n + 2)
text_next bs after body n b a c few e m =
    let whole = closed_whole bs after n b a c in
    let means : IsTextOf c.body m.text = subst (λ (l : List ℕ). IsTextOf l m.text) (body_front after body n c e) m.is in
    let len : length (34 ∷ c.body ++ 34 ∷ []) ≡ n + 2 = omega (arith, quoted_length c.body, c.count) in
    next_of form.Text (text m.text) (34 ∷ c.body ++ 34 ∷ []) c.rest bs (n + 2) tt
    (record {
      no_blank = subst NoBlank (sym whole) (class_no_blank 34 (c.body ++ 34 ∷ c.rest) (omega arith));
      longest = text_longest bs c.body c.rest m.text whole means;
      within = omega arith;
    }) len

pub open_fault : (bs after : List ℕ) → Begins bs (λ b. b ≡ 34) → after ≡ drop 1 bs → IsUnclosed after → IsFault bs L2 0
open_fault bs after b a h =
    let d : drop 1 bs ≡ b.rest = ap (drop 1) b.parts in
    let whole : bs ≡ 34 ∷ after = b.parts ∙ ap (λ (x : ℕ). x ∷ b.rest) b.holds ∙ ap (λ (l : List ℕ). 34 ∷ l) (sym d ∙ sym a) in
    subst (λ (l : List ℕ). IsFault l L2 0) (sym whole) (open_text h)

pub long_fault : (bs after : List ℕ) (n : ℕ) → Begins bs (λ b. b ≡ 34) → after ≡ drop 1 bs → ClosesAt after n → 256 < n → IsFault bs L5 0
long_fault bs after n b a c many = long_text c.rest (closed_whole bs after n b a c) c.is (omega (arith, c.count))

pub escape_fault : (bs after body : List ℕ) (n k : ℕ) → Begins bs (λ b. b ≡ 34) → after ≡ drop 1 bs → ClosesAt after n → n ≤ 256 → body ≡ take n after → FailsAt body k → IsFault bs L1 (1 + k)
escape_fault bs after body n k b a c few e f =
    let same = body_front after body n c e in
    let whole : bs ≡ 34 ∷ (f.front ++ 92 ∷ f.byte ∷ f.back) ++ 34 ∷ c.rest = closed_whole bs after n b a c ∙ ap (λ (l : List ℕ). 34 ∷ l ++ 34 ∷ c.rest) (sym same ∙ f.parts) in
    let few' : length (f.front ++ 92 ∷ f.byte ∷ f.back) ≤ 256 = omega (arith, ap length f.parts, ap length same, c.count) in
    subst (λ (x : ℕ). IsFault bs L1 (1 + x)) f.count (wrong_escape c.rest whole f.before f.wrong f.line f.after few')

-- ---- marks

-- what the first byte of a mark, or of no token, isn't
abbrev pub IsOther : ℕ → Type 0
IsOther b = (is_space b ≡ false) × (is_letter b ≡ false) × (is_ascii_digit b ≡ false) × (b ≢ 34)

pub other_no_blank : (bs : List ℕ) → Begins bs IsOther → ((rest : List ℕ) → bs ≢ 47 ∷ 47 ∷ rest) → NoBlank bs
other_no_blank bs b not w u q (space {b = c} s) = let same : b.first ≡ c = heads _ _ _ _ (sym b.parts ∙ q) in let no : is_space c ≡ false = subst (λ (x : ℕ). is_space x ≡ false) same b.holds.0 in absurd cc
other_no_blank bs b not w u q (comment {line = line} h k) = not (line ++ u) q

-- the mark that a token of this class is
record HasMark (v : List ℕ) : Type 0 where
  mark : Mark
  is : v ≡ spelling mark

has_mark : (t : Symbol) (v : List ℕ) → IsLexeme t v → 3 ≡ symbol_class t → HasMark v
has_mark t v (is_word s h) e = absurd (omega arith)
has_mark t v (is_number s h) e = absurd (omega arith)
has_mark t v (is_text s h) e = absurd (omega arith)
has_mark t v (is_mark {m = m} s) e = record { mark = m; is = s }

mark_at_front : (bs v u : List ℕ) (t : Symbol) → Begins bs IsOther → bs ≡ v ++ u → IsLexeme t v → HasMark v
mark_at_front bs v u t b q l = has_mark t v l (sym (other_class b.first b.holds.1 b.holds.2 b.holds.3) ∙ class_of bs b.rest v u b.first t b.parts q l)

pub mark_longest : (bs rest : List ℕ) (m : Mark) → Begins bs IsOther → bs ≡ spelling m ++ rest → ((j : Mark) (u : List ℕ) → bs ≡ spelling j ++ u → length (spelling j) ≤ length (spelling m)) → IsLongest (mark m) (spelling m) rest bs
mark_longest bs rest m b e most = record {
  parts = e;
  is = is_mark refl;
  longest = λ t v u q l. let k = mark_at_front bs v u t b q l in let n = most k.mark u (q ∙ ap (λ (x : List ℕ). x ++ u) k.is) in omega (arith, n, ap length k.is);
}

pub mark_few : (w : List ℕ) → IsMark w → length w ≤ 2
mark_few w (single b h) = omega arith
mark_few w (double a b h) = omega arith

pub double_next : (bs : List ℕ) (m : Mark) → Begins bs IsOther → ((rest : List ℕ) → bs ≢ 47 ∷ 47 ∷ rest) → length (spelling m) ≡ 2 → bs ≡ spelling m ++ drop 2 bs → IsNextOf (form.Mark m) bs 2
double_next bs m b not len e = next_of (form.Mark m) (mark m) (spelling m) (drop 2 bs) bs 2 refl (record { no_blank = other_no_blank bs b not; longest = mark_longest bs (drop 2 bs) m b e (λ j u q. omega (arith, mark_few (spelling j) (mark_is j))); within = tt }) len

pub single_next : (bs : List ℕ) (m : Mark) → Begins bs IsOther → ((rest : List ℕ) → bs ≢ 47 ∷ 47 ∷ rest) → spelling m ≡ get_or bs 0 0 ∷ [] → ((j : Mark) (u : List ℕ) → bs ≡ spelling j ++ u → length (spelling j) ≤ 1) → IsNextOf (form.Mark m) bs 1
single_next bs m b not s most =
    let first : get_or bs 0 0 ≡ b.first = ap (λ (l : List ℕ). get_or l 0 0) b.parts in
    let spelled : spelling m ≡ b.first ∷ [] = s ∙ ap (λ (x : ℕ). x ∷ []) first in
    let e : bs ≡ spelling m ++ b.rest = b.parts ∙ ap (λ (l : List ℕ). l ++ b.rest) (sym spelled) in
    let len : length (spelling m) ≡ 1 = ap length s in
    next_of (form.Mark m) (mark m) (spelling m) b.rest bs 1 refl (record { no_blank = other_no_blank bs b not; longest = mark_longest bs b.rest m b e (λ j u q. omega (arith, most j u q)); within = tt }) len

no_single : (w bs u : List ℕ) → IsMark w → bs ≡ w ++ u → length w ≤ 1 → (w ≡ get_or bs 0 0 ∷ [] → ⊥) → ⊥
no_single w bs u (single b h) e n not = not (ap (λ (l : List ℕ). get_or l 0 0 ∷ []) (sym e))
no_single w bs u (double a b h) e n not = absurd (omega arith)

pub mark_fault : (bs : List ℕ) → Begins bs IsOther → ((rest : List ℕ) → bs ≢ 47 ∷ 47 ∷ rest) → ((j : Mark) → spelling j ≢ get_or bs 0 0 ∷ []) → ((j : Mark) (u : List ℕ) → bs ≡ spelling j ++ u → length (spelling j) ≤ 1) → IsFault bs L1 0
mark_fault bs b not none most =
    let no_lexeme : NoLexeme bs = λ t v u q l.
    let k = mark_at_front bs v u t b q l in
    let e = q ∙ ap (λ (x : List ℕ). x ++ u) k.is in
    no_single (spelling k.mark) bs u (mark_is k.mark) e (most k.mark u e) (none k.mark) in
    let no_blank = other_no_blank bs b not in
    subst (λ (l : List ℕ). IsFault l L1 0) (sym b.parts) (no_token b.holds.3 (subst NoBlank b.parts no_blank) (subst NoLexeme b.parts no_lexeme))

-- ---- white space and comments

pub space_is : (bs : List ℕ) → 1 ≤ length bs → is_space (get_or bs 0 0) ≡ true → IsBlank (take 1 bs) (drop 1 bs)
space_is [] n h = absurd (omega arith)
space_is (b ∷ bs) n h = space h

pub begins_at : (bs : List ℕ) (P : ℕ → Type 0) → 1 ≤ length bs → P (get_or bs 0 0) → Begins bs P
begins_at [] P n h = absurd (omega arith)
begins_at (b ∷ bs) P n h = record { first = b; rest = bs; parts = refl; holds = h }

pub begins_some : (bs : List ℕ) (P : ℕ → Type 0) → Begins bs P → 1 ≤ length bs
begins_some bs P b = omega (arith, ap length b.parts)

line_end : (b : ℕ) → is_line_byte b ≡ false → b ≡ 10
line_end b e = grind (arith, nat_tests)

ends_line : (l : List ℕ) → ((b : ℕ) (bs : List ℕ) → l ≡ b ∷ bs → is_line_byte b ≡ false) → EndsLine l
ends_line [] h = tt
ends_line (b ∷ bs) h = line_end b (h b bs refl)

pub comment_within : (bs rest : List ℕ) (n : ℕ) → n ≡ prefix_len is_line_byte rest → bs ≡ 47 ∷ 47 ∷ rest → 2 + n ≤ length bs
comment_within bs rest n e f = omega (arith, (run_of is_line_byte rest).within, ap length f)

pub comment_is : (bs rest : List ℕ) (n : ℕ) → n ≡ prefix_len is_line_byte rest → bs ≡ 47 ∷ 47 ∷ rest → IsBlank (take (2 + n) bs) (drop (2 + n) bs)
comment_is bs rest n e f =
    let r : IsRun is_line_byte rest n = subst (IsRun is_line_byte rest) (sym e) (run_of is_line_byte rest) in
    let two : 2 + n ≡ suc (suc n) = omega arith in
    let P : ℕ → Type 0 = λ k. IsBlank (take k (47 ∷ 47 ∷ rest)) (drop k (47 ∷ 47 ∷ rest)) in
    subst (λ (l : List ℕ). IsBlank (take (2 + n) l) (drop (2 + n) l)) (sym f) (subst P (sym two) (comment r.passes (ends_line (drop n rest) r.ends)))
