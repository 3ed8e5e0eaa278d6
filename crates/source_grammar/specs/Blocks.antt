-- Blocks as parts of the grammar, with the limits that they keep, and what is left of one after its first tokens.
use Rattle.std.specs.Prelude.{◌-◌, ℕ, List, codes}
use Rattle.chor_base.specs.declared.rule.Place.{Place}
use Rattle.chor_base.specs.declared.rule.Rule.TheVariants.{P2, P3}
use Rattle.chor_lexer.specs.declared.mark.Mark.TheVariants.{OpenBrace, CloseBrace, OpenParen, CloseParen, Semicolon, Dot}
use Rattle.chor_lexer.specs.declared.token.Token.{Token}
use Rattle.chor_tree.specs.declared.file.Named.{Named}
use Rattle.source_grammar.specs.Symbols.{Allowed, Part, Further, Nothing, As, Within}
use Rattle.source_grammar.specs.Expressions.{ExprPart}
use Rattle.source_grammar.specs.Values.{After, Either, At}
use Rattle.chor_tree.specs.Source.{Block, Then, Either as Branch, Calls, Ends}
use Rattle.source_grammar.specs.Grammar.{NameIs, PassedSessionsAre, PassedAre, BlockIs, LinesAre, TailIs}
use Rattle.source_grammar.specs.Limits.{KeepsBlock, KeepsLines, KeepsTail}
use Rattle.source_grammar.specs.Parts.{MarkPart, WordPart, NamePart, AnyListPart, AMark, AWord, AName, Or, OrComma}
use Rattle.source_grammar.specs.Statements.{StatementPart}

-- ---- where so many blocks may be opened, and so many statements may stand on each path

pub record BlockPart (blocks path : ℕ) (Q : Allowed) (names : List (List ℕ)) (ts : List Token) (b : Block) (rest : List Token) : Type 0 where
  pub is : BlockIs names ts b rest
  pub keeps : KeepsBlock Q blocks path is

pub record LinesPart (blocks path : ℕ) (Q : Allowed) (names : List (List ℕ)) (ts : List Token) (b : Block) (rest : List Token) : Type 0 where
  pub is : LinesAre names ts b rest
  pub keeps : KeepsLines Q blocks path is

pub record TailPart (blocks path : ℕ) (Q : Allowed) (names : List (List ℕ)) (ts : List Token) (b : Block) (rest : List Token) : Type 0 where
  pub is : TailIs names ts b rest
  pub keeps : KeepsTail Q blocks path is

-- the tokens with which a tail begins
abbrev pub TailFirst : Further
TailFirst names t = Or (AWord (codes "end")) (Or (AWord (codes "call")) (AWord (codes "if"))) names t

-- ---- what is left of them

-- after "{"
abbrev pub BlockTail : ℕ → ℕ → Part Block
BlockTail blocks path = After (LinesPart (blocks - 1) path) (λ b. As (MarkPart CloseBrace) (λ u. b))

abbrev pub BlockSteps : ℕ → ℕ → Part Block
BlockSteps blocks path = Within P2 blocks (After (MarkPart OpenBrace) (λ u. BlockTail blocks path))

-- a statement, which begins at this place, and what is after it
abbrev pub LineAt : ℕ → ℕ → Place → Part Block
LineAt blocks path p = After StatementPart (λ s. After (MarkPart Semicolon) (λ u. As (LinesPart blocks (path - 1)) (λ b. Then p s b)))

abbrev pub LinePart : ℕ → ℕ → Part Block
LinePart blocks path = At (λ p. LineAt blocks path p)

-- a tail, where so many statements may stand
abbrev pub LastPart : ℕ → ℕ → Part Block
LastPart blocks path = Within P3 path (TailPart blocks (path - 1))

abbrev pub LinesSteps : ℕ → ℕ → Part Block
LinesSteps blocks path = Either (Within P3 path (LinePart blocks path)) (LastPart blocks path)

-- names without a limit
abbrev pub AllNamesPart : Part (List Named)
AllNamesPart = AnyListPart NameIs

-- [ ";" names ], and the tokens with which it, and names before it, could go on
abbrev pub PassedSessionsPart : Part (List Named)
PassedSessionsPart Q names ts ss rest = PassedSessionsAre names ts ss rest

abbrev pub PassedSessionsMore : Further
PassedSessionsMore names t = Or (OrComma Nothing) (AMark Semicolon) names t

-- [ names [ ";" names ] ]
abbrev pub PassedPart : Part (List Named × List Named)
PassedPart Q names ts v rest = PassedAre names ts v.0 v.1 rest

abbrev pub PassedMore : Further
PassedMore names t = Or PassedSessionsMore AName names t

-- after "call", which stands at this place
abbrev pub CallTail : Place → Part Block
CallTail p = After NamePart (λ f. After (MarkPart OpenParen) (λ u. After PassedPart (λ v. As (MarkPart CloseParen) (λ w. Calls p f v.0 v.1))))

-- after "if", which stands at this place
abbrev pub IfTail : ℕ → ℕ → Place → Part Block
IfTail blocks path p = After NamePart (λ q. After (MarkPart Dot) (λ u. After ExprPart (λ e. After (BlockPart blocks path) (λ a. After (WordPart (codes "else")) (λ v. As (BlockPart blocks path) (λ b. Branch p q e a b))))))

-- "end" | "call" .. | "if" .., which stands at this place
abbrev pub LaterAt : ℕ → ℕ → Place → Part Block
LaterAt blocks path p = Either (After (WordPart (codes "call")) (λ u. CallTail p)) (After (WordPart (codes "if")) (λ u. IfTail blocks path p))

abbrev pub TailAt : ℕ → ℕ → Place → Part Block
TailAt blocks path p = Either (As (WordPart (codes "end")) (λ u. Ends p)) (LaterAt blocks path p)

abbrev pub TailSteps : ℕ → ℕ → Part Block
TailSteps blocks path = At (λ p. TailAt blocks path p)
