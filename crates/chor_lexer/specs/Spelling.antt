-- What the canonical text of an expression spells (this project's own).
use Rattle.std.specs.Prelude.{◌≡◌, ◌<◌, ◌≤◌, ◌^◌, ℕ, pos, unsigned_abs, Bool, true, false, List, [], ◌∷◌, ◌++◌, length, Option, Some, None, nat_lt, slice_get}
use Rattle.std.specs.List.{AllZip}
use Rattle.std.specs.Str.{IsUtf8}
use Rattle.chor_base.specs.declared.names.NameId.{NameId}
use Rattle.chor_base.specs.declared.value.Value.{Value}
use Rattle.chor_base.specs.declared.value.Value.TheVariants.{Int, Bool as Truth, Text, Part}
use Rattle.chor_base.specs.Expr.{Term, Constant, Variable, Unary, Binary}
use Rattle.chor_base.specs.Writing.{name_in, truth_text, escaped}
use Rattle.chor_lexer.specs.declared.mark.Mark.TheVariants.{OpenParen, CloseParen}
use Rattle.chor_lexer.specs.declared.token.Token.{Token}
use Rattle.chor_lexer.specs.Lexeme.{Symbol, word, number, text, mark, Lexeme, IsLexeme}
use Rattle.chor_lexer.specs.Tokens.{Spells, IsTokens, AreSpelled}
use Rattle.chor_lexer.specs.Grammar.{IsExpr}
use Rattle.chor_lexer.specs.Keywords.{IsName}
use Rattle.chor_lexer.specs.Canonical.{unary_mark, binary_mark, strength_of, left_needs, right_needs, expr_text}

-- ---- expressions that a source can spell

-- a constant that a source with these tables of names and texts can spell: a number that isn't negative and fits; true or
-- false, which has a number as each word of a file has; a text of the table that is UTF-8, as all of a file is, and not too
-- long as it is printed, which is never longer than it was written; an endpoint has no spelling
abbrev pub IsLiteral : List (List ℕ) → List (List ℕ) → Value → Type 0
IsLiteral names texts (Int z) = (n : ℕ) × (z ≡ pos n) × (n < 2 ^ 63)
IsLiteral names texts (Truth b) = (n : NameId) × (slice_get names n.0 ≡ Some (truth_text b))
IsLiteral names texts (Text t) = (bytes : List ℕ) × (slice_get texts t ≡ Some bytes) × (length (escaped bytes) ≤ 256) × IsUtf8 bytes
IsLiteral names texts (Part s r) = ⊥

-- the variables are names of the table, no longer than a word may be, and the constants such literals. Each expression that
-- the tokens of a file derive is so
abbrev pub IsSource : List (List ℕ) → List (List ℕ) → Term → Type 0
IsSource names texts (Constant v) = IsLiteral names texts v
IsSource names texts (Variable x) = (w : List ℕ) × (slice_get names x.0 ≡ Some w) × IsName w × IsLexeme (word w) w × (length w ≤ 64)
IsSource names texts (Unary op e) = IsSource names texts e
IsSource names texts (Binary op e f) = IsSource names texts e × IsSource names texts f

-- ---- what their text spells

abbrev pub enclosed_symbols : Bool → List Symbol → List Symbol
enclosed_symbols true ss = mark OpenParen ∷ ss ++ mark CloseParen ∷ []
enclosed_symbols false ss = ss

abbrev pub operand_symbols : ℕ → ℕ → List Symbol → List Symbol
operand_symbols needed strong ss = enclosed_symbols (nat_lt strong needed) ss

abbrev pub text_symbols : Option (List ℕ) → List Symbol
text_symbols None = []
text_symbols (Some bytes) = text bytes ∷ []

abbrev pub constant_symbols : List (List ℕ) → Value → List Symbol
constant_symbols texts (Int z) = number (unsigned_abs z) ∷ []
constant_symbols texts (Truth b) = word (truth_text b) ∷ []
constant_symbols texts (Text t) = text_symbols (slice_get texts t)
constant_symbols texts (Part s r) = []

-- the symbols of the canonical text, in order
abbrev pub expr_symbols : List (List ℕ) → List (List ℕ) → Term → List Symbol
expr_symbols names texts (Constant v) = constant_symbols texts v
expr_symbols names texts (Variable x) = word (name_in names x) ∷ []
expr_symbols names texts (Unary op e) = mark (unary_mark op) ∷ operand_symbols 6 (strength_of e) (expr_symbols names texts e)
expr_symbols names texts (Binary op e f) =
    operand_symbols (left_needs op) (strength_of e) (expr_symbols names texts e)
    ++ mark (binary_mark op) ∷ operand_symbols (right_needs op) (strength_of f) (expr_symbols names texts f)

-- token by token
abbrev pub SpellAll : List (List ℕ) → List (List ℕ) → List Token → List Symbol → Type 0
SpellAll names texts ts ss = AllZip (λ t s. Spells names texts t.kind s) ts ss

-- all tokens but the last one are this expression
pub record IsAllButLast (names : List (List ℕ)) (ts : List Token) (x : Term) : Type 0 where
  pub written : List Token
  pub end : Token
  pub parts : ts ≡ written ++ end ∷ []
  pub is : IsExpr names written x

-- the canonical text has tokens, which have these numbers, and they are the expression, and then the end
pub record ReadsBack (names texts : List (List ℕ)) (x : Term) : Type 0 where
  pub lexemes : List Lexeme
  pub tokens : List Token
  pub has : IsTokens (expr_text names texts x) lexemes
  pub spelled : AreSpelled names texts tokens lexemes
  pub is : IsAllButLast names tokens x
