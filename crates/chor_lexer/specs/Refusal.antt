-- Why bytes have no tokens.
use Rattle.std.specs.Prelude.{◌≡◌, ◌≢◌, ◌+◌, ◌^◌, ◌<◌, ◌≤◌, ℕ, List, ◌∷◌, ◌++◌, length, take, None}
use Rattle.std.specs.Str.{IsUtf8}
use Rattle.std.specs.Str.Lossy.{utf8_valid_len}
use Rattle.chor_base.specs.declared.rule.Place.{Place}
use Rattle.chor_base.specs.declared.rule.Rule.{Rule}
use Rattle.chor_base.specs.declared.rule.Rule.TheVariants.{L1, L2, L3, L4, L5}
use Rattle.chor_base.specs.declared.rule.Denied.{Denied}
use Rattle.chor_base.specs.declared.rule.Denied.TheVariants.{Refused, Memory}
use Rattle.chor_lexer.specs.Text.{IsTextOf, IsBody, IsUnclosed, escaped}
use Rattle.chor_lexer.specs.Lexeme.{Lexeme, word, number, IsLongest, NoLexeme}
use Rattle.chor_lexer.specs.Cut.{start, place_after, NoBlank, IsCut}

-- the rule that the bytes violate at the front, so many bytes further on:
-- a character, no quote (34), that begins no token;
-- the first backslash (92) in a text that stands for nothing with the next byte;
-- a quote that isn't closed;
-- a number that is too great;
-- a word that is too long;
-- a text that is too long, whatever its escapes are
pub data IsFault : List ℕ → Rule → ℕ → Type 0 where
  no_token : {b : ℕ} {bs : List ℕ}
      → b ≢ 34 → NoBlank (b ∷ bs) → NoLexeme (b ∷ bs)
      → IsFault (b ∷ bs) L1 0
  wrong_escape : {bs front t back : List ℕ} {b : ℕ} (rest : List ℕ)
      → bs ≡ 34 ∷ front ++ 92 ∷ b ∷ back ++ 34 ∷ rest
      → IsTextOf front t → escaped b ≡ None → b ≢ 10 → IsBody back
      → length (front ++ 92 ∷ b ∷ back) ≤ 256
      → IsFault bs L1 (1 + length front)
  open_text : {bs : List ℕ} → IsUnclosed bs → IsFault (34 ∷ bs) L2 0
  great_number : {bs w rest : List ℕ} {n : ℕ}
      → IsLongest (number n) w rest bs → 2 ^ 63 ≤ n
      → IsFault bs L3 0
  long_word : {bs w rest : List ℕ}
      → IsLongest (word w) w rest bs → 64 < length w
      → IsFault bs L5 0
  long_text : {bs body : List ℕ} (rest : List ℕ)
      → bs ≡ 34 ∷ body ++ 34 ∷ rest → IsBody body → 256 < length body
      → IsFault bs L5 0

-- the rule and the place for which a file is refused:
-- the first byte where it stops being UTF-8;
-- else the first fault, before which all is cut into tokens
pub data Refuses (bytes : List ℕ) : Rule → Place → Type 0 where
  malformed : (IsUtf8 bytes → ⊥)
      → Refuses bytes L4 (place_after start (take (utf8_valid_len bytes) bytes))
  faulty : {front : List Lexeme} {rest : List ℕ} {p : Place} {rule : Rule} {n : ℕ}
      → IsUtf8 bytes → IsCut bytes start front rest p → IsFault rest rule n
      → Refuses bytes rule (place_after p (take n rest))

-- a refusal is right; want of memory tells nothing
abbrev pub IsDenial : List ℕ → Denied → Type 0
IsDenial bytes (Refused r) = Refuses bytes r.rule r.place × (r.who ≡ None)
IsDenial bytes Memory = Unit {0}
