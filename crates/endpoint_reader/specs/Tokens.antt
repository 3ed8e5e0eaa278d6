-- Tokens as they are written, where words and texts have these numbers.
use Rattle.std.specs.Prelude.{◌≡◌, ◌∷◌, ◌+◌, ℕ, unsigned_abs, List, [], map, None, slice_index_or}
use Rattle.std.proofs.Common.{zero, suc}
use Rattle.chor_base.specs.declared.rule.Place.{Place}
use Rattle.chor_base.specs.declared.rule.Denied.{Denied}
use Rattle.chor_base.specs.declared.rule.Denied.TheVariants.{Refused}
use Rattle.chor_base.specs.declared.rule.Refusal.{Refusal}
use Rattle.chor_base.specs.declared.value.Value.TheVariants.{Int, Bool as Truth, Text, Part}
use Rattle.chor_base.specs.Expr.{Term, Constant, Variable, Unary, Binary}
use Rattle.chor_base.specs.Writing.{truth_text, name_in}
use Rattle.chor_lexer.specs.declared.token.Kind.{Kind}
use Rattle.chor_lexer.specs.declared.token.Kind.TheVariants as kind
use Rattle.chor_lexer.specs.declared.token.Token.{Token}
use Rattle.chor_lexer.specs.Lexeme.{Symbol, word, number, text, mark, last, Lexeme}
use Rattle.endpoint_grammar.specs.Written.{Phrase, Leaf, Unary as OfOne, Binary as OfTwo}
use Rattle.endpoint_reader.specs.declared.input.Input.{Input}
use Rattle.endpoint_reader.specs.declared.input.Named.{Named}

-- the bytes of a text; a number that isn't in its table has none
abbrev pub text_in : List (List ℕ) → ℕ → List ℕ
text_in texts n = slice_index_or texts n []

-- what a token of this kind says
abbrev pub symbol_of : Input → Kind → Symbol
symbol_of input (kind.Word n) = word (name_in input.names.now n)
symbol_of input (kind.Number z) = number (unsigned_abs z)
symbol_of input (kind.Text n) = text (text_in input.texts.now n)
symbol_of input (kind.Mark m) = mark m
symbol_of input kind.Last = last

-- what a token says, and its place
abbrev pub lexeme_of : Input → Token → Lexeme
lexeme_of input t = record { symbol = symbol_of input t.kind; place = t.place }

-- the tokens after so many; the last one stays
abbrev pub onwards : ℕ → List Token → List Token
onwards n [] = []
onwards n (t ∷ []) = t ∷ []
onwards zero (t ∷ u ∷ ts) = t ∷ u ∷ ts
onwards (suc n) (t ∷ u ∷ ts) = onwards n (u ∷ ts)

-- the tokens from a number on; none is beyond the last one
abbrev pub from : Input → ℕ → List Lexeme
from input at = map (lexeme_of input) (onwards at input.tokens.now.items)

-- a name, as it is written
abbrev pub named : Input → Named → Lexeme
named input n = record { symbol = word (name_in input.names.now n.name); place = n.place }

-- the tokens of these names
abbrev pub all_named : Input → List Named → List Lexeme
all_named input ns = map (named input) ns

-- an expression, as it is written
abbrev pub written : Input → Term → Phrase
written input (Constant (Int z)) = Leaf (number (unsigned_abs z))
written input (Constant (Truth b)) = Leaf (word (truth_text b))
written input (Constant (Text t)) = Leaf (text (text_in input.texts.now t))
written input (Constant (Part s r)) = Leaf last
written input (Variable x) = Leaf (word (name_in input.names.now x))
written input (Unary op e) = OfOne op (written input e)
written input (Binary op e f) = OfTwo op (written input e) (written input f)

-- the token stands there
pub record IsFirst (input : Input) (at : ℕ) (t : Token) : Type 0 where
  pub rest : List Token
  pub is : onwards at input.tokens.now.items ≡ t ∷ rest

-- the token stands there, and those after it
abbrev pub IsAt : Input → ℕ → Token → Type 0
IsAt input at t = from input at ≡ lexeme_of input t ∷ from input (at + 1)

-- the file ends there
abbrev pub ending : Place → Lexeme
ending p = record { symbol = last; place = p }

pub record EndsThere (input : Input) (at : ℕ) : Type 0 where
  pub place : Place
  pub is : from input at ≡ ending place ∷ []

-- it is a refusal, and names nobody
pub record IsTold (d : Denied) : Type 0 where
  pub refusal : Refusal
  pub is : d ≡ Refused refusal
  pub nobody : refusal.who ≡ None
