-- Tokens whose texts are in the table (this project's own).
use Rattle.std.specs.Prelude.{◌≡◌, ◌<◌, ℕ, List, length}
use Rattle.chor_lexer.specs.declared.token.Kind.TheVariants.{Text}
use Rattle.chor_lexer.specs.declared.token.Token.{Token}

-- the number of a text is in the table
abbrev pub IsTextKnown : List (List ℕ) → Token → Type 0
IsTextKnown texts t = (n : ℕ) → t.kind ≡ Text n → n < length texts
