-- Expressions as a part of a grammar of tokens.
use Rattle.std.specs.Prelude.{◌≡◌, ◌<◌, ◌-◌, ℕ, List, length, Some, slice_get}
use Rattle.chor_base.specs.declared.rule.Rule.TheVariants.{P2}
use Rattle.chor_base.specs.declared.expr.BinOp.{BinOp}
use Rattle.chor_base.specs.Expr.{Term}
use Rattle.chor_lexer.specs.declared.token.Token.{Token}
use Rattle.chor_lexer.specs.Keywords.{HasMark, HasWord}
use Rattle.chor_lexer.specs.Canonical.{binary_mark}
use Rattle.chor_lexer.specs.Grammar.{ExprIs}
use Rattle.source_grammar.specs.Symbols.{Allowed, Further}

-- an operator of two operands
abbrev pub Operator : Further
Operator names t = (op : BinOp) × HasMark (binary_mark op) t

-- an expression has at most 255 tokens, those of ts before the rest, or the 256th stands where P2 may be violated
abbrev pub KeepsLength : Allowed → List Token → List Token → Type 0
KeepsLength Q ts rest = (t : Token) → 255 < length ts - length rest → slice_get ts 255 ≡ Some t → Q P2 t.place

-- expr
pub record ExprPart (Q : Allowed) (names : List (List ℕ)) (ts : List Token) (x : Term) (rest : List Token) : Type 0 where
  pub is : ExprIs names ts x rest
  pub keeps : KeepsLength Q ts rest

-- any token but this word
abbrev pub IsNoWord : List ℕ → Further
IsNoWord w names t = HasWord names w t → ⊥
