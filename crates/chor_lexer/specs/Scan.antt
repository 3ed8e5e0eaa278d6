-- What the parts of the scanner answer.
use Rattle.std.specs.Prelude.{◌≡◌, ◌≢◌, ◌≤◌, ◌⊎◌, ℕ, pos, true, List, ◌∷◌, ◌++◌, length, take, drop, None}
use Rattle.chor_lexer.specs.declared.scan.Form.{Form}
use Rattle.chor_lexer.specs.declared.scan.Form.TheVariants as form
use Rattle.chor_lexer.specs.declared.scan.Piece.{Piece}
use Rattle.chor_lexer.specs.declared.scan.Piece.TheVariants.{Blank, Token}
use Rattle.chor_lexer.specs.declared.text.Part.{Part}
use Rattle.chor_lexer.specs.declared.text.Part.TheVariants.{Quote, LineEnd, Plain, Escape}
use Rattle.chor_lexer.specs.Text.{is_plain, escaped, IsBody, IsTextOf}
use Rattle.chor_lexer.specs.Lexeme.{Symbol, word, number, text, mark, IsLexeme}
use Rattle.chor_lexer.specs.Cut.{IsBlank, IsNext, EndsLine}

-- the symbol has this form
abbrev pub HasForm : Form → Symbol → Type 0
HasForm form.Word (word w) = Unit {0}
HasForm (form.Number z) (number n) = z ≡ pos n
HasForm form.Text (text t) = Unit {0}
HasForm (form.Mark m) (mark k) = m ≡ k
HasForm _ _ = ⊥

-- the bytes are how a token of this form is written
pub record IsWritten (f : Form) (written : List ℕ) : Type 0 where
  pub symbol : Symbol
  pub has : HasForm f symbol
  pub is : IsLexeme symbol written

-- the first n bytes are a token of this form, and no longer one
pub record IsNextOf (f : Form) (bs : List ℕ) (n : ℕ) : Type 0 where
  pub symbol : Symbol
  pub has : HasForm f symbol
  pub some : 1 ≤ n
  pub within : n ≤ length bs
  pub next : IsNext symbol (take n bs) (drop n bs) bs

-- what stands at the front
abbrev pub IsPiece : List ℕ → Piece → Type 0
IsPiece bs (Blank n) = (1 ≤ n) × (n ≤ length bs) × IsBlank (take n bs) (drop n bs)
IsPiece bs (Token f n) = IsNextOf f bs n

-- there is a first byte, and P holds of it
pub record Begins (bs : List ℕ) (P : ℕ → Type 0) : Type 0 where
  pub first : ℕ
  pub rest : List ℕ
  pub parts : bs ≡ first ∷ rest
  pub holds : P first

-- ---- texts

-- what stands at the front of the rest of a text
abbrev pub IsPart : List ℕ → Part → Type 0
IsPart bs Quote = bs ≡ 34 ∷ drop 1 bs
IsPart bs LineEnd = EndsLine bs ⊎ ((bs ≡ 92 ∷ drop 1 bs) × EndsLine (drop 1 bs))
IsPart bs (Plain b) = (bs ≡ b ∷ drop 1 bs) × (is_plain b ≡ true)
IsPart bs (Escape meant) = (b : ℕ) × (bs ≡ 92 ∷ b ∷ drop 2 bs) × (b ≢ 10) × (escaped b ≡ meant)

-- a quote after n bytes closes the text
pub record ClosesAt (bs : List ℕ) (n : ℕ) : Type 0 where
  pub body : List ℕ
  pub rest : List ℕ
  pub parts : bs ≡ body ++ 34 ∷ rest
  pub count : length body ≡ n
  pub is : IsBody body

-- the first escape that doesn't exist stands after n bytes
pub record FailsAt (body : List ℕ) (n : ℕ) : Type 0 where
  pub front : List ℕ
  pub text : List ℕ
  pub byte : ℕ
  pub back : List ℕ
  pub parts : body ≡ front ++ 92 ∷ byte ∷ back
  pub count : length front ≡ n
  pub before : IsTextOf front text
  pub wrong : escaped byte ≡ None
  pub line : byte ≢ 10
  pub after : IsBody back

-- the bytes mean some text
pub record IsMeant (body : List ℕ) : Type 0 where
  pub text : List ℕ
  pub is : IsTextOf body text
