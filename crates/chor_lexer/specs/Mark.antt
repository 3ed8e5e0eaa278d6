-- How marks are written.
use Rattle.std.specs.Prelude.{ℕ, List, codes}
use Rattle.chor_lexer.specs.declared.mark.Mark.{Mark}
use Rattle.chor_lexer.specs.declared.mark.Mark.TheVariants.{OpenBrace, CloseBrace, OpenParen, CloseParen, OpenBracket, CloseBracket, Comma, Semicolon, Colon, Dot, Assign, Becomes, Arrow, Bar, At, Plus, Minus, Star, Slash, Equal, NotEqual, Less, LessEqual, And, Or, Not}

-- the bytes of each mark
abbrev pub spelling : Mark → List ℕ
spelling OpenBrace = codes "{"
spelling CloseBrace = codes "}"
spelling OpenParen = codes "("
spelling CloseParen = codes ")"
spelling OpenBracket = codes "["
spelling CloseBracket = codes "]"
spelling Comma = codes ","
spelling Semicolon = codes ";"
spelling Colon = codes ":"
spelling Dot = codes "."
spelling Assign = codes "="
spelling Becomes = codes ":="
spelling Arrow = codes "->"
spelling Bar = codes "|"
spelling At = codes "@"
spelling Plus = codes "+"
spelling Minus = codes "-"
spelling Star = codes "*"
spelling Slash = codes "/"
spelling Equal = codes "=="
spelling NotEqual = codes "!="
spelling Less = codes "<"
spelling LessEqual = codes "<="
spelling And = codes "&&"
spelling Or = codes "||"
spelling Not = codes "!"
