-- Statements as parts of the grammar, and what is left of one after its first tokens.
use Rattle.std.specs.Prelude.{ℕ, List, codes}
use Rattle.chor_lexer.specs.declared.mark.Mark.TheVariants.{OpenParen, CloseParen, OpenBracket, CloseBracket, Comma, Colon, Dot, Becomes, Arrow}
use Rattle.chor_lexer.specs.declared.token.Token.{Token}
use Rattle.chor_tree.specs.declared.file.Named.{Named}
use Rattle.chor_tree.specs.declared.tree.Part.{Part as Role}
use Rattle.source_grammar.specs.Symbols.{Allowed, Part, Further, Nothing, As}
use Rattle.source_grammar.specs.Expressions.{Operator, ExprPart}
use Rattle.source_grammar.specs.Values.{After, Either}
use Rattle.chor_tree.specs.Source.{Statement, Starts, Sends, Selects, Gives, Sets, Asks, Shows}
use Rattle.source_grammar.specs.Grammar.{PartIs, NewPartsAre, StatementIs}
use Rattle.source_grammar.specs.Limits.{KeepsStatement}
use Rattle.source_grammar.specs.Parts.{MarkPart, WordPart, NamePart, PartPart, AnyListPart, AWord, AName, Or, OrComma}

-- ---- roles of processes

-- role { "," role }
abbrev pub RolesPart : Part (List Role)
RolesPart = AnyListPart PartIs

-- [ "new" role { "," role } ]
abbrev pub NewRolesPart : Part (List Role)
NewRolesPart Q names ts ps rest = NewPartsAre names ts ps rest

-- with which tokens roles could go on, and new ones after them
abbrev pub RoleMore : Further
RoleMore names t = Or (OrComma Nothing) (AWord (codes "new")) names t

-- ---- statements

-- a statement that keeps its limits
pub record StatementPart (Q : Allowed) (names : List (List ℕ)) (ts : List Token) (s : Statement) (rest : List Token) : Type 0 where
  pub is : StatementIs names ts s rest
  pub keeps : KeepsStatement Q is

-- the tokens with which it begins, and with which it could go on
abbrev pub StatementFirst : Further
StatementFirst names t = Or (AWord (codes "start")) AName names t

abbrev pub StatementMore : Further
StatementMore names t = Or RoleMore Operator names t

-- ---- what is left of one

-- after "start"
abbrev pub StartTail : Part Statement
StartTail = After NamePart (λ c. After (MarkPart OpenParen) (λ u. After NamePart (λ k. After (MarkPart CloseParen) (λ v. After (MarkPart Colon) (λ w. After RolesPart (λ active. As NewRolesPart (λ serve. Starts c k active serve)))))))

-- after role "."
abbrev pub ValueTail : Role → Part Statement
ValueTail a = After ExprPart (λ e. After (MarkPart Arrow) (λ u. After PartPart (λ b. After (MarkPart Dot) (λ v. After NamePart (λ x. After (MarkPart Colon) (λ w. As NamePart (λ k. Sends a e b x.name k)))))))

-- after role "->" role ":" NAME "."
abbrev pub LabelTail : Role → Role → Named → Part Statement
LabelTail a b k = As NamePart (λ l. Selects a b k l.name)

-- after role "->" role ":" NAME
abbrev pub GiveTail : Role → Role → Named → Part Statement
GiveTail a b k = After (MarkPart OpenParen) (λ u. After PartPart (λ h. As (MarkPart CloseParen) (λ v. Gives a b k h)))

abbrev pub SessionTail : Role → Role → Named → Part Statement
SessionTail a b k = Either (After (MarkPart Dot) (λ u. LabelTail a b k)) (GiveTail a b k)

-- after role "->"
abbrev pub PathTail : Role → Part Statement
PathTail a = After PartPart (λ b. After (MarkPart Colon) (λ u. After NamePart (λ k. SessionTail a b k)))

-- after a role
abbrev pub RoleTail : Role → Part Statement
RoleTail a = Either (After (MarkPart Dot) (λ u. ValueTail a)) (After (MarkPart Arrow) (λ u. PathTail a))

-- after NAME "["
abbrev pub SendingTail : Named → Part Statement
SendingTail p = After NamePart (λ r. After (MarkPart CloseBracket) (λ u. RoleTail (record { process = p; role = r })))

-- after NAME "." NAME ":=" "host"
abbrev pub HostTail : Named → Named → Part Statement
HostTail p x = After NamePart (λ f. After (MarkPart OpenParen) (λ u. After ExprPart (λ a. After (MarkPart Comma) (λ v. After ExprPart (λ b. As (MarkPart CloseParen) (λ w. Asks p x.name f a b))))))

-- after NAME "." NAME ":="
abbrev pub SetTail : Named → Named → Part Statement
SetTail p x = Either (After (WordPart (codes "host")) (λ u. HostTail p x)) (As ExprPart (λ e. Sets p x.name e))

-- after NAME "."
abbrev pub SettingTail : Named → Part Statement
SettingTail p = After NamePart (λ x. After (MarkPart Becomes) (λ u. SetTail p x))

-- after NAME "show"
abbrev pub ShowTail : Named → Part Statement
ShowTail p = As ExprPart (λ e. Shows p e)

-- after NAME where no "[" comes
abbrev pub PlainTail : Named → Part Statement
PlainTail p = Either (After (MarkPart Dot) (λ u. SettingTail p)) (After (WordPart (codes "show")) (λ u. ShowTail p))

-- after NAME
abbrev pub NameTail : Named → Part Statement
NameTail p = Either (After (MarkPart OpenBracket) (λ u. SendingTail p)) (PlainTail p)

-- a statement by its first tokens
abbrev pub Stepwise : Part Statement
Stepwise = Either (After (WordPart (codes "start")) (λ u. StartTail)) (After NamePart (λ p. NameTail p))
