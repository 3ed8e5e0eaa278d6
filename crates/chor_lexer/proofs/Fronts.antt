-- The first byte tells what kind of token it is.
use Rattle.std.proofs.Common.{◌≡◌, ◌≢◌, ◌<◌, ◌≤◌, ◌⊎◌, inl, inr, ℕ, Bool, true, false, cond, ◌==◌, List, [], ◌∷◌, ◌++◌, length, Option, Some, None, refl, sym, ap, ◌∙◌, subst, arith}
use Rattle.std.specs.Prelude.{bytes_eq}
use Rattle.std.specs.Char.{is_ascii_digit}
use Rattle.std.specs.Str.Parse.{digits_value}
use Rattle.std.proofs.lemmas.List.{append-nil}
use Rattle.std.proofs.lemmas.Bool.Decides.{nat_tests}
use Rattle.std.proofs.lemmas.Slice.Eq.{bytes_eq-Decides}
use Rattle.chor_lexer.specs.declared.mark.Mark.{Mark}
use Rattle.chor_lexer.specs.declared.mark.Mark.TheVariants.{OpenBrace, CloseBrace, OpenParen, CloseParen, OpenBracket, CloseBracket, Comma, Semicolon, Colon, Dot, Assign, Becomes, Arrow, Bar, At, Plus, Minus, Star, Slash, Equal, NotEqual, Less, LessEqual, And, Or, Not}
use Rattle.chor_lexer.specs.Mark.{spelling}
use Rattle.chor_lexer.specs.Lexeme.{Symbol, word, number, text, mark, last, IsLexeme, is_word, is_number, is_text, is_mark, is_letter, is_word_byte}
use Rattle.chor_lexer.specs.Cut.{is_space, space, comment, NoBlank}
use Rattle.chor_lexer.proofs.Texts.{text_same, body_same, text_body, tails}

-- ---- classes

abbrev pub byte_class : ℕ → ℕ
byte_class b = cond (is_letter b) 0 (cond (is_ascii_digit b) 1 (cond (b == 34) 2 3))

abbrev pub symbol_class : Symbol → ℕ
symbol_class (word w) = 0
symbol_class (number n) = 1
symbol_class (text t) = 2
symbol_class (mark m) = 3
symbol_class last = 4

pub letter_class : (b : ℕ) → is_letter b ≡ true → byte_class b ≡ 0
letter_class b e = grind (arith, nat_tests)

pub digit_class : (b : ℕ) → is_ascii_digit b ≡ true → byte_class b ≡ 1
digit_class b e = grind (arith, nat_tests)

pub other_class : (b : ℕ) → is_letter b ≡ false → is_ascii_digit b ≡ false → b ≢ 34 → byte_class b ≡ 3
other_class b e f n = grind (arith, nat_tests)

space_class : (b : ℕ) → is_space b ≡ true → byte_class b ≡ 3
space_class b e = grind (arith, nat_tests)

pub letter_is_word_byte : (b : ℕ) → is_letter b ≡ true → is_word_byte b ≡ true
letter_is_word_byte b e = grind (arith, nat_tests)

-- ---- marks

-- a mark has one byte or two, the first of which begins nothing else
pub data IsMark : List ℕ → Type 0 where
  single : (b : ℕ) → byte_class b ≡ 3 → IsMark (b ∷ [])
  double : (a b : ℕ) → byte_class a ≡ 3 → IsMark (a ∷ b ∷ [])

pub mark_is : (m : Mark) → IsMark (spelling m)
mark_is OpenBrace = single 123 refl
mark_is CloseBrace = single 125 refl
mark_is OpenParen = single 40 refl
mark_is CloseParen = single 41 refl
mark_is OpenBracket = single 91 refl
mark_is CloseBracket = single 93 refl
mark_is Comma = single 44 refl
mark_is Semicolon = single 59 refl
mark_is Colon = single 58 refl
mark_is Dot = single 46 refl
mark_is Assign = single 61 refl
mark_is Becomes = double 58 61 refl
mark_is Arrow = double 45 62 refl
mark_is Bar = single 124 refl
mark_is At = single 64 refl
mark_is Plus = single 43 refl
mark_is Minus = single 45 refl
mark_is Star = single 42 refl
mark_is Slash = single 47 refl
mark_is Equal = double 61 61 refl
mark_is NotEqual = double 33 61 refl
mark_is Less = single 60 refl
mark_is LessEqual = double 60 61 refl
mark_is And = double 38 38 refl
mark_is Or = double 124 124 refl
mark_is Not = single 33 refl

abbrev marks : List Mark
marks = OpenBrace ∷ CloseBrace ∷ OpenParen ∷ CloseParen ∷ OpenBracket ∷ CloseBracket ∷ Comma ∷ Semicolon ∷ Colon ∷ Dot ∷ Assign ∷ Becomes ∷ Arrow ∷ Bar ∷ At ∷ Plus ∷ Minus ∷ Star ∷ Slash ∷ Equal ∷ NotEqual ∷ Less ∷ LessEqual ∷ And ∷ Or ∷ Not ∷ []

-- the first of the marks that is written so
abbrev named : List Mark → List ℕ → Option Mark
named [] w = None
named (m ∷ ms) w = cond (bytes_eq (spelling m) w) (Some m) (named ms w)

named_back : (m : Mark) → named marks (spelling m) ≡ Some m
named_back OpenBrace = refl
named_back CloseBrace = refl
named_back OpenParen = refl
named_back CloseParen = refl
named_back OpenBracket = refl
named_back CloseBracket = refl
named_back Comma = refl
named_back Semicolon = refl
named_back Colon = refl
named_back Dot = refl
named_back Assign = refl
named_back Becomes = refl
named_back Arrow = refl
named_back Bar = refl
named_back At = refl
named_back Plus = refl
named_back Minus = refl
named_back Star = refl
named_back Slash = refl
named_back Equal = refl
named_back NotEqual = refl
named_back Less = refl
named_back LessEqual = refl
named_back And = refl
named_back Or = refl
named_back Not = refl

named_is : (ms : List Mark) (w : List ℕ) (m : Mark) → named ms w ≡ Some m → spelling m ≡ w
named_is [] w m e = absurd cc
named_is (n ∷ ms) w m e = go (bytes_eq (spelling n) w) refl e (named_is ms w m)
  where
    go : (b : Bool) → bytes_eq (spelling n) w ≡ b → cond b (Some n) (named ms w) ≡ Some m → (named ms w ≡ Some m → spelling m ≡ w) → spelling m ≡ w
    go true h q later = let own : n ≡ m = cc in ap spelling (sym own) ∙ (bytes_eq-Decides (spelling n) w).0 h
    go false h q later = later q

-- the mark that is written so, or that there is none
pub mark_written : (w : List ℕ) → ((m : Mark) × (spelling m ≡ w)) ⊎ ((m : Mark) → spelling m ≢ w)
mark_written w = go (named marks w) refl
  where
    go : (o : Option Mark) → named marks w ≡ o → ((m : Mark) × (spelling m ≡ w)) ⊎ ((m : Mark) → spelling m ≢ w)
    go None e = inr (λ m q. let no : None ≡ Some m = sym e ∙ ap (named marks) (sym q) ∙ named_back m in absurd cc)
    go (Some m) e = inl (m, named_is marks w m e)

pub mark_same : (m n : Mark) → spelling m ≡ spelling n → m ≡ n
mark_same m n e = let q : Some m ≡ Some n = sym (named_back m) ∙ ap (named marks) e ∙ named_back n in cc

mark_class : (w : List ℕ) (b : ℕ) (bs u : List ℕ) → IsMark w → w ++ u ≡ b ∷ bs → byte_class b ≡ 3
mark_class w b bs u (single c h) e = let same : c ≡ b = cc in subst (λ (x : ℕ). byte_class x ≡ 3) same h
mark_class w b bs u (double c d h) e = let same : c ≡ b = cc in subst (λ (x : ℕ). byte_class x ≡ 3) same h

mark_long : (w : List ℕ) → IsMark w → 1 ≤ length w
mark_long w (single b h) = omega arith
mark_long w (double a b h) = omega arith

-- ---- tokens

pub lexeme_long : (s : Symbol) (w : List ℕ) → IsLexeme s w → 1 ≤ length w
lexeme_long s w (is_word a h) = omega arith
lexeme_long s w (is_number a h) = omega arith
lexeme_long s w (is_text {body = body} e h) = let q = ap length e in omega arith
lexeme_long s w (is_mark {m = m} e) = let l = mark_long (spelling m) (mark_is m) in let q = ap length e in omega arith

pub lexeme_class : (s : Symbol) (w : List ℕ) (b : ℕ) (bs u : List ℕ) → IsLexeme s w → w ++ u ≡ b ∷ bs → byte_class b ≡ symbol_class s
lexeme_class s w b bs u (is_word {c = c} a h) e = let same : c ≡ b = cc in subst (λ (x : ℕ). byte_class x ≡ 0) same (letter_class c a)
lexeme_class s w b bs u (is_number {d = c} a h) e = let same : c ≡ b = cc in subst (λ (x : ℕ). byte_class x ≡ 1) same (digit_class c a)
lexeme_class s w b bs u (is_text {body = body} q h) e = let f : (34 ∷ body ++ 34 ∷ []) ++ u ≡ b ∷ bs = sym (ap (λ (l : List ℕ). l ++ u) q) ∙ e in let same : 34 ≡ b = cc in subst (λ (x : ℕ). byte_class x ≡ 2) same refl
lexeme_class s w b bs u (is_mark {m = m} q) e = mark_class (spelling m) b bs u (mark_is m) (sym (ap (λ (l : List ℕ). l ++ u) q) ∙ e)

same_class : (s t : Symbol) (w v : List ℕ) → IsLexeme s w → IsLexeme t v → w ≡ v → symbol_class s ≡ symbol_class t
same_class s t [] v a b e = let l = lexeme_long s [] a in absurd (omega arith)
same_class s t (x ∷ w) v a b e = sym (lexeme_class s (x ∷ w) x w [] a (append-nil (x ∷ w))) ∙ lexeme_class t v x w [] b (append-nil v ∙ sym e)

apart : (s t : Symbol) (w v : List ℕ) → IsLexeme s w → IsLexeme t v → w ≡ v → symbol_class s ≢ symbol_class t → s ≡ t
apart s t w v a b e n = absurd (n (same_class s t w v a b e))

pub lexeme_same : (s t : Symbol) (w v : List ℕ) → IsLexeme s w → IsLexeme t v → w ≡ v → s ≡ t
lexeme_same s t w v (is_word a h) (is_word b k) e = ap word e
lexeme_same s t w v (is_number a h) (is_number b k) e = ap (λ (l : List ℕ). number (digits_value 10 l)) e
lexeme_same s t w v (is_text {body = x} {t = t'} a h) (is_text {body = y} {t = u'} b k) e = ap text (text_same x y t' u' h k (body_same x y [] [] (text_body x t' h) (text_body y u' k) (tails _ _ _ _ (sym a ∙ e ∙ b))))
lexeme_same s t w v (is_mark {m = m} a) (is_mark {m = n} b) e = ap mark (mark_same m n (sym a ∙ e ∙ b))
lexeme_same s t w v (is_word a h) (is_number b k) e = apart _ _ _ _ (is_word a h) (is_number b k) e (λ q. omega arith)
lexeme_same s t w v (is_word a h) (is_text b k) e = apart _ _ _ _ (is_word a h) (is_text b k) e (λ q. omega arith)
lexeme_same s t w v (is_word a h) (is_mark b) e = apart _ _ _ _ (is_word a h) (is_mark b) e (λ q. omega arith)
lexeme_same s t w v (is_number a h) (is_word b k) e = apart _ _ _ _ (is_number a h) (is_word b k) e (λ q. omega arith)
lexeme_same s t w v (is_number a h) (is_text b k) e = apart _ _ _ _ (is_number a h) (is_text b k) e (λ q. omega arith)
lexeme_same s t w v (is_number a h) (is_mark b) e = apart _ _ _ _ (is_number a h) (is_mark b) e (λ q. omega arith)
lexeme_same s t w v (is_text a h) (is_word b k) e = apart _ _ _ _ (is_text a h) (is_word b k) e (λ q. omega arith)
lexeme_same s t w v (is_text a h) (is_number b k) e = apart _ _ _ _ (is_text a h) (is_number b k) e (λ q. omega arith)
lexeme_same s t w v (is_text a h) (is_mark b) e = apart _ _ _ _ (is_text a h) (is_mark b) e (λ q. omega arith)
lexeme_same s t w v (is_mark a) (is_word b k) e = apart _ _ _ _ (is_mark a) (is_word b k) e (λ q. omega arith)
lexeme_same s t w v (is_mark a) (is_number b k) e = apart _ _ _ _ (is_mark a) (is_number b k) e (λ q. omega arith)
lexeme_same s t w v (is_mark a) (is_text b k) e = apart _ _ _ _ (is_mark a) (is_text b k) e (λ q. omega arith)

-- before a letter, a digit or a quote is no white space and no comment
pub class_no_blank : (b : ℕ) (bs : List ℕ) → byte_class b < 3 → NoBlank (b ∷ bs)
class_no_blank b bs h w u e (space {b = c} s) = let same : c ≡ b = cc in let k = subst (λ (x : ℕ). byte_class x ≡ 3) same (space_class c s) in absurd (omega arith)
class_no_blank b bs h w u e (comment p q) = let same : 47 ≡ b = cc in let k : byte_class b ≡ 3 = subst (λ (x : ℕ). byte_class x ≡ 3) same refl in absurd (omega arith)
