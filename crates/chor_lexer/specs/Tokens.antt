-- The tokens of a file.
use Rattle.std.specs.Prelude.{◌≡◌, ◌<◌, ℕ, pos, Bool, true, false, ◌&&◌, not, List, [], ◌∷◌, ◌++◌, length, Some, slice_get}
use Rattle.std.specs.List.{AllByRecursion, AllZip, fold}
use Rattle.std.specs.Str.{IsUtf8}
use Rattle.chor_base.specs.Words.{with_word}
use Rattle.chor_base.specs.declared.names.NameId.{NameId}
use Rattle.chor_base.specs.declared.rule.Place.{Place}
use Rattle.chor_lexer.specs.declared.token.Kind.{Kind}
use Rattle.chor_lexer.specs.declared.token.Kind.TheVariants.{Word, Number, Text, Mark, Last}
use Rattle.chor_lexer.specs.declared.token.Token.{Token}
use Rattle.chor_lexer.specs.Lexeme.{Symbol, word, number, text, mark, last, Lexeme}
use Rattle.chor_lexer.specs.Cut.{start, IsCut}

-- all bytes are cut into these tokens, and the last one stands where a next byte would
pub record IsTokens (bytes : List ℕ) (ls : List Lexeme) : Type 0 where
  pub utf8 : IsUtf8 bytes
  pub front : List Lexeme
  pub next : Place
  pub cut : IsCut bytes start front [] next
  pub whole : ls ≡ front ++ record { symbol = last; place = next } ∷ []

-- the symbol that a kind stands for, where words and texts have these numbers
abbrev pub Spells : List (List ℕ) → List (List ℕ) → Kind → Symbol → Type 0
Spells names texts (Word n) (word w) = slice_get names n.0 ≡ Some w
Spells names texts (Number z) (number n) = z ≡ pos n
Spells names texts (Text n) (text t) = slice_get texts n ≡ Some t
Spells names texts (Mark m) (mark k) = m ≡ k
Spells names texts Last last = Unit {0}
Spells names texts _ _ = ⊥

-- token by token, with the same places
abbrev pub AreSpelled : List (List ℕ) → List (List ℕ) → List Token → List Lexeme → Type 0
AreSpelled names texts ts ls = AllZip (λ t l. Spells names texts t.kind l.symbol × (t.place ≡ l.place)) ts ls

-- the number of a word is in the table
abbrev pub IsKnown : List (List ℕ) → Token → Type 0
IsKnown names t = (n : NameId) → t.kind ≡ Word n → n.0 < length names

-- the names with the word of this symbol, where it is one
abbrev pub with_name : List (List ℕ) → Symbol → List (List ℕ)
with_name names (word w) = with_word names w
with_name names _ = names

-- the texts with the text of this symbol, where it is one
abbrev pub with_text : List (List ℕ) → Symbol → List (List ℕ)
with_text texts (text t) = with_word texts t
with_text texts _ = texts

-- these are the tokens of the bytes; each word or text that is new went last into its table, in their order
pub record AreTokensOf (bytes : List ℕ) (old_names old_texts names texts : List (List ℕ)) (ts : List Token) : Type 0 where
  pub lexemes : List Lexeme
  pub tokens : IsTokens bytes lexemes
  pub spelled : AreSpelled names texts ts lexemes
  pub names_are : names ≡ fold (λ table l. with_name table l.symbol) old_names lexemes
  pub texts_are : texts ≡ fold (λ table l. with_text table l.symbol) old_texts lexemes

-- the symbol is a token of the bytes, or of a front of them
pub record HasSymbol (bytes : List ℕ) (s : Symbol) : Type 0 where
  pub front : List Lexeme
  pub place : Place
  pub rest : List ℕ
  pub next : Place
  pub cut : IsCut bytes start (front ++ record { symbol = s; place = place } ∷ []) rest next

-- a table has grown, and P holds of each word that is new
pub record Grows (P : List ℕ → Type 0) (old new : List (List ℕ)) : Type 0 where
  pub more : List (List ℕ)
  pub grown : new ≡ old ++ more
  pub each : AllByRecursion P more

-- the end of the file
abbrev pub is_last : Kind → Bool
is_last (Word n) = false
is_last (Number z) = false
is_last (Text n) = false
is_last (Mark m) = false
is_last Last = true

-- there is a token, the last one is `Last`, and no other is
abbrev pub is_ended : List Token → Bool
is_ended [] = false
is_ended (t ∷ []) = is_last t.kind
is_ended (t ∷ u ∷ ts) = not (is_last t.kind) && is_ended (u ∷ ts)
