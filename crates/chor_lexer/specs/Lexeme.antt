-- Tokens as they are written.
use Rattle.std.specs.Prelude.{◌≡◌, ◌+◌, ◌^◌, ◌<◌, ◌≤◌, ℕ, Bool, true, ◌||◌, ◌==◌, List, [], ◌∷◌, ◌++◌, length}
use Rattle.std.specs.Char.{is_ascii_digit, is_ascii_alphabetic, is_ascii_alphanumeric}
use Rattle.std.specs.List.{AllByRecursion}
use Rattle.std.specs.Str.Parse.{digits_value}
use Rattle.chor_base.specs.declared.rule.Place.{Place}
use Rattle.chor_lexer.specs.declared.mark.Mark.{Mark}
use Rattle.chor_lexer.specs.Mark.{spelling}
use Rattle.chor_lexer.specs.Text.{IsTextOf}

-- what a token says: a word, the value of a number, a text without quotes and escapes, a mark, or that nothing follows
pub data Symbol : Type 0 where
  word : List ℕ → Symbol
  number : ℕ → Symbol
  text : List ℕ → Symbol
  mark : Mark → Symbol
  last : Symbol

-- a token, and where it begins
pub record Lexeme : Type 0 where
  pub symbol : Symbol
  pub place : Place

-- a letter A to Z or a to z, or an underscore (95)
abbrev pub is_letter : ℕ → Bool
is_letter b = is_ascii_alphabetic b || b == 95

-- one of these, or a digit
abbrev pub is_word_byte : ℕ → Bool
is_word_byte b = is_ascii_alphanumeric b || b == 95

-- the symbol is written so, limits left out: a word from a letter on, a number in decimal digits, a text between quotes (34), a mark
pub data IsLexeme : Symbol → List ℕ → Type 0 where
  is_word : {c : ℕ} {cs : List ℕ}
      → is_letter c ≡ true → AllByRecursion (λ b. is_word_byte b ≡ true) cs
      → IsLexeme (word (c ∷ cs)) (c ∷ cs)
  is_number : {d : ℕ} {ds : List ℕ}
      → is_ascii_digit d ≡ true → AllByRecursion (λ b. is_ascii_digit b ≡ true) ds
      → IsLexeme (number (digits_value 10 (d ∷ ds))) (d ∷ ds)
  is_text : {body t written : List ℕ}
      → written ≡ 34 ∷ body ++ 34 ∷ [] → IsTextOf body t
      → IsLexeme (text t) written
  is_mark : {m : Mark} {written : List ℕ} → written ≡ spelling m → IsLexeme (mark m) written

-- the longest token at the front of bs is this symbol, written as w
pub record IsLongest (s : Symbol) (w rest bs : List ℕ) : Type 0 where
  pub parts : bs ≡ w ++ rest
  pub is : IsLexeme s w
  pub longest : (t : Symbol) (v u : List ℕ) → bs ≡ v ++ u → IsLexeme t v → length v ≤ length w

-- no token stands at the front
abbrev pub NoLexeme : List ℕ → Type 0
NoLexeme bs = (s : Symbol) (w u : List ℕ) → bs ≡ w ++ u → IsLexeme s w → ⊥

-- the limits: 64 bytes of a word, numbers below 2^63, 256 bytes between the quotes of a text
abbrev pub IsWithin : Symbol → List ℕ → Type 0
IsWithin (word name) w = length w ≤ 64
IsWithin (number n) w = n < 2 ^ 63
IsWithin (text t) w = length w ≤ 256 + 2
IsWithin (mark m) w = Unit {0}
IsWithin last w = Unit {0}
