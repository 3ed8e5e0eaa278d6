-- Bytes that are UTF-8 are so on each side of a byte below 128.
use Rattle.std.proofs.Common.{◌≡◌, ◌<◌, ◌≤◌, ◌+◌, ℕ, suc, Bool, true, false, List, [], ◌∷◌, ◌++◌, length, drop, get_or, Some, None, refl, sym, ap, ◌∙◌, subst, arith, append_assoc, length-append, nat_lt}
use Rattle.std.specs.Prelude.{◌==◌, if◌then◌else◌}
use Rattle.std.specs.Char.{is_ascii_digit}
use Rattle.std.specs.Str.{IsUtf8, IsAscii}
use Rattle.std.proofs.lemmas.List.{take_at, drop_at}
use Rattle.std.proofs.lemmas.Bool.Decides.{nat_tests, Decides-eqb}
use Rattle.std.proofs.lemmas.Str.{IsUtf8-nil, IsUtf8-append, IsUtf8-take, IsUtf8-drop, IsUtf8-from_ascii, IsCharBoundary-before_ascii, IsCharBoundary-after_ascii}
use Rattle.std.proofs.lemmas.Str.Ascii.{IsAscii-nil, IsAscii-cons}
use Rattle.chor_base.specs.Writing.{escaped_byte}
use Rattle.chor_base.specs.Writing as writing
use Rattle.chor_lexer.specs.declared.mark.Mark.{Mark}
use Rattle.chor_lexer.specs.declared.mark.Mark.TheVariants.{OpenBrace, CloseBrace, OpenParen, CloseParen, OpenBracket, CloseBracket, Comma, Semicolon, Colon, Dot, Assign, Becomes, Arrow, Bar, At, Plus, Minus, Star, Slash, Equal, NotEqual, Less, LessEqual, And, Or, Not}
use Rattle.chor_lexer.specs.Mark.{spelling}
use Rattle.chor_lexer.specs.Text.{is_plain, escaped, IsTextOf, nothing, plain, escape}
use Rattle.chor_lexer.specs.Lexeme.{is_word_byte}
use Rattle.chor_lexer.specs.Cut.{is_space}
use Rattle.chor_lexer.proofs.Runs.{Passes}

-- ---- bytes below 128

pub ascii_passes : (p : ℕ → Bool) (w : List ℕ) → ((b : ℕ) → p b ≡ true → b < 128) → Passes p w → IsAscii w
ascii_passes p [] low h = IsAscii-nil
ascii_passes p (b ∷ w) low h = IsAscii-cons b w (low b h.0) (ascii_passes p w low h.1)

pub word_byte_low : (b : ℕ) → is_word_byte b ≡ true → b < 128
word_byte_low b e = grind (arith, nat_tests)

pub digit_low : (b : ℕ) → is_ascii_digit b ≡ true → b < 128
digit_low b e = grind (arith, nat_tests)

pub space_low : (b : ℕ) → is_space b ≡ true → b < 128
space_low b e = grind (arith, nat_tests)

abbrev is_low : ℕ → Bool
is_low b = nat_lt b 128

mark_low : (m : Mark) → Passes is_low (spelling m)
mark_low OpenBrace = (refl, tt)
mark_low CloseBrace = (refl, tt)
mark_low OpenParen = (refl, tt)
mark_low CloseParen = (refl, tt)
mark_low OpenBracket = (refl, tt)
mark_low CloseBracket = (refl, tt)
mark_low Comma = (refl, tt)
mark_low Semicolon = (refl, tt)
mark_low Colon = (refl, tt)
mark_low Dot = (refl, tt)
mark_low Assign = (refl, tt)
mark_low Becomes = (refl, (refl, tt))
mark_low Arrow = (refl, (refl, tt))
mark_low Bar = (refl, tt)
mark_low At = (refl, tt)
mark_low Plus = (refl, tt)
mark_low Minus = (refl, tt)
mark_low Star = (refl, tt)
mark_low Slash = (refl, tt)
mark_low Equal = (refl, (refl, tt))
mark_low NotEqual = (refl, (refl, tt))
mark_low Less = (refl, tt)
mark_low LessEqual = (refl, (refl, tt))
mark_low And = (refl, (refl, tt))
mark_low Or = (refl, (refl, tt))
mark_low Not = (refl, tt)

pub mark_ascii : (m : Mark) → IsAscii (spelling m)
mark_ascii m = ascii_passes is_low (spelling m) (λ b e. grind (arith, nat_tests)) (mark_low m)

-- ---- both sides

pub record Sides (a b : List ℕ) : Type 0 where
  pub before : IsUtf8 a
  pub after : IsUtf8 b

there : (a : List ℕ) (s : ℕ) (b : List ℕ) → get_or (a ++ s ∷ b) (length a) 0 ≡ s
there [] s b = refl
there (x ∷ a) s b = there a s b

pub sides : (a : List ℕ) (s : ℕ) (b : List ℕ) → s < 128 → IsUtf8 (a ++ s ∷ b) → Sides a b
sides a s b low u =
    let bs = a ++ s ∷ b in
    let inside : length a < length bs = omega (arith, length-append a (s ∷ b)) in
    let is : get_or bs (length a) 0 < 128 = omega (arith, there a s b) in
    let count : length (a ++ s ∷ []) ≡ length a + 1 = omega (arith, length-append a (s ∷ [])) in
    let back : drop (length a + 1) bs ≡ b = ap (drop (length a + 1)) (sym (append_assoc a (s ∷ []) b)) ∙ drop_at (a ++ s ∷ []) b (length a + 1) count in
    record {
      before = subst IsUtf8 (take_at a (s ∷ b) (length a) refl) (IsUtf8-take bs (length a) u (IsCharBoundary-before_ascii bs (length a) inside is));
      after = subst IsUtf8 back (IsUtf8-drop bs (length a + 1) u (IsCharBoundary-after_ascii bs (length a) u inside is));
    }

pub joined : (a : List ℕ) (s : ℕ) (b : List ℕ) → s < 128 → IsUtf8 a → IsUtf8 b → IsUtf8 (a ++ s ∷ b)
joined a s b low u v = IsUtf8-append a (s ∷ b) u (IsUtf8-append (s ∷ []) b (IsUtf8-from_ascii (s ∷ []) (IsAscii-cons s [] low IsAscii-nil)) v)

pub past_ascii : (w rest : List ℕ) → IsAscii w → IsUtf8 (w ++ rest) → IsUtf8 rest
past_ascii [] rest h u = u
past_ascii (b ∷ w) rest h u = past_ascii w rest (λ i. h (suc i)) (sides [] b (w ++ rest) (h 0) u).after

-- ---- texts

-- an escape and what it stands for
record IsLow (b c : ℕ) : Type 0 where
  byte : b < 128
  meant : c < 128

escape_low : (b c : ℕ) → escaped b ≡ Some c → IsLow b c
escape_low b c e = first (b == 34) refl e
  where
    at : (k d : ℕ) → (b == k) ≡ true → k < 128 → d < 128 → Some d ≡ Some c → IsLow b c
    at k d q m n f = let is : b ≡ k = (Decides-eqb b k).0 q in let means : d ≡ c = cc in record { byte = omega arith; meant = omega arith }

    third : (t : Bool) → (b == 110) ≡ t → (if t then Some 10 else None) ≡ Some c → IsLow b c
    third true q f = at 110 10 q (omega arith) (omega arith) f
    third false q f = absurd cc

    second : (t : Bool) → (b == 92) ≡ t → (if t then Some 92 else (if b == 110 then Some 10 else None)) ≡ Some c → IsLow b c
    second true q f = at 92 92 q (omega arith) (omega arith) f
    second false q f = third (b == 110) refl f

    first : (t : Bool) → (b == 34) ≡ t → (if t then Some 34 else (if b == 92 then Some 92 else (if b == 110 then Some 10 else None))) ≡ Some c → IsLow b c
    first true q f = at 34 34 q (omega arith) (omega arith) f
    first false q f = second (b == 92) refl f

-- what is written is UTF-8 where the text is, and the other way round
pub written_utf8 : (written t a : List ℕ) → IsTextOf written t → IsUtf8 (a ++ t) → IsUtf8 (a ++ written)
written_utf8 written t a nothing u = u
written_utf8 written t a (plain {b = b} {written = w} {text = x} p h) u =
    subst IsUtf8 (append_assoc a (b ∷ []) w) (written_utf8 w x (a ++ b ∷ []) h (subst IsUtf8 (sym (append_assoc a (b ∷ []) x)) u))
written_utf8 written t a (escape {b = b} {c = c} {written = w} {text = x} p h) u =
    let low = escape_low b c p in
    let s = sides a c x low.meant u in
    joined a 92 (b ∷ w) (omega arith) s.before (joined [] b w low.byte IsUtf8-nil (written_utf8 w x [] h s.after))

pub text_utf8 : (written t a : List ℕ) → IsTextOf written t → IsUtf8 (a ++ written) → IsUtf8 (a ++ t)
text_utf8 written t a nothing u = u
text_utf8 written t a (plain {b = b} {written = w} {text = x} p h) u =
    subst IsUtf8 (append_assoc a (b ∷ []) x) (text_utf8 w x (a ++ b ∷ []) h (subst IsUtf8 (sym (append_assoc a (b ∷ []) w)) u))
text_utf8 written t a (escape {b = b} {c = c} {written = w} {text = x} p h) u =
    let low = escape_low b c p in
    let s = sides a 92 (b ∷ w) (omega arith) u in
    joined a c x low.meant s.before (text_utf8 w x [] h (sides [] b w low.byte s.after).after)

-- ---- how long a text is where it is printed

plain_once : (b : ℕ) → is_plain b ≡ true → length (escaped_byte b) ≡ 1
plain_once b p = grind (arith, nat_tests)

at_most_two : (b : ℕ) → length (escaped_byte b) ≤ 2
at_most_two b = grind (arith, nat_tests)

-- no text is written in fewer bytes than it is printed in
pub printed_shortest : (written t : List ℕ) → IsTextOf written t → length (writing.escaped t) ≤ length written
printed_shortest written t nothing = omega arith
printed_shortest written t (plain {b = b} {written = w} {text = x} p h) = omega (arith, printed_shortest w x h, plain_once b p, length-append (escaped_byte b) (writing.escaped x))
printed_shortest written t (escape {b = b} {c = c} {written = w} {text = x} p h) = omega (arith, printed_shortest w x h, at_most_two c, length-append (escaped_byte c) (writing.escaped x))
