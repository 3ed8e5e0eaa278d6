-- Tokens by their numbers, as the lexemes that they are; and what it is to say the same by the data and by the relations (this
-- project's own).
use Rattle.std.specs.Prelude.{◌≡◌, ℤ, pos, negsuc, Bool, true, false, List, [], ◌∷◌, map, length, nat_lt, unsigned_abs, slice_index_or}
use Rattle.chor_base.specs.Words.{AllDistinct}
use Rattle.chor_base.specs.Writing.{name_in}
use Rattle.chor_lexer.specs.declared.token.Kind.{Kind}
use Rattle.chor_lexer.specs.declared.token.Kind.TheVariants as kind
use Rattle.chor_lexer.specs.declared.token.Token.{Token}
use Rattle.chor_lexer.specs.Lexeme.{Symbol, word, number, text, mark, last, Lexeme}
use Rattle.grammar.specs.Grammars.{Allowed, Derives}
use Rattle.source_rows.specs.Sources.{Source}
use Rattle.source_rows.specs.Values.{Tables, Derived, rules}

-- what a token of this kind is
abbrev pub symbol_of : Tables → Kind → Symbol
symbol_of i (kind.Word n) = word (name_in i.words n)
symbol_of i (kind.Number z) = number (unsigned_abs z)
symbol_of i (kind.Text n) = text (slice_index_or i.texts n [])
symbol_of i (kind.Mark m) = mark m
symbol_of i kind.Last = last

-- what a token is, with its place
abbrev pub lexeme_of : Tables → Token → Lexeme
lexeme_of i t = record { symbol = symbol_of i t.kind; place = t.place }

-- what tokens are
abbrev pub lexed : Tables → List Token → List Lexeme
lexed i ts = map (lexeme_of i) ts

-- a number isn't negative
abbrev pub is_natural : ℤ → Bool
is_natural (pos n) = true
is_natural (negsuc n) = false

-- its number of a word or a text is in the tables; a number isn't negative
abbrev pub kind_there : Tables → Kind → Bool
kind_there i (kind.Word n) = nat_lt n.0 (length i.words)
kind_there i (kind.Number z) = is_natural z
kind_there i (kind.Text n) = nat_lt n (length i.texts)
kind_there i (kind.Mark m) = true
kind_there i kind.Last = true

-- so for all tokens
abbrev pub There : Tables → List Token → Type 0
There i [] = Unit {0}
There i (t ∷ ts) = (kind_there i t.kind ≡ true) × There i ts

-- no word and no text has two numbers
pub record AreTables (i : Tables) : Type 0 where
  pub words : AllDistinct i.words
  pub texts : AllDistinct i.texts

-- the tokens derive by the data something of which f makes x
pub record ByData {A : Type 0} (i : Tables) (Q : Allowed) (g : Source) (f : Derived g → A) (ts : List Token) (x : A) (rest : List Token) : Type 0 where
  pub value : Derived g
  pub is : Derives (rules i) Q g (lexed i ts) value (lexed i rest)
  pub same : f value ≡ x
  pub there : There i rest

-- the relation R says it of tokens of which those left are us
pub record ByRelation {A : Type 0} (i : Tables) (R : List Token → A → List Token → Type 0) (ts : List Token) (x : A) (us : List Lexeme) : Type 0 where
  pub rest : List Token
  pub is : R ts x rest
  pub left : us ≡ lexed i rest
  pub there : There i rest
