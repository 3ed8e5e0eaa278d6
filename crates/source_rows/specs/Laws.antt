-- What the laws say of all tokens (this project's own).
use Rattle.std.specs.Prelude.{[], List}
use Rattle.chor_base.specs.declared.rule.Place.{Place}
use Rattle.chor_base.specs.declared.rule.Rule.{Rule}
use Rattle.chor_lexer.specs.Lexeme.{Lexeme}
use Rattle.grammar.specs.Grammars.{nowhere, Derives}
use Rattle.grammar.specs.Faults.{IsFirstFault, IsDerived, HasFault}
use Rattle.source_rows.specs.Sources.{file}
use Rattle.source_rows.specs.Values.{Tables, Derived, rules}

-- the tokens derive this within the limits
abbrev pub DeriveFile : Tables → List Lexeme → Derived file → Type 0
DeriveFile i ts x = Derives (rules i) nowhere file ts x []

-- the tokens are a source within the limits
abbrev pub AreSource : Tables → List Lexeme → Type 0
AreSource i ts = IsDerived (rules i) file ts

-- the first token that no source goes on with, or not within a limit, has this place and violates this rule
abbrev pub FirstFaultIs : Tables → List Lexeme → Rule → Place → Type 0
FirstFaultIs i ts e p = IsFirstFault (rules i) file ts e p

-- there is such a token
abbrev pub HasFirstFault : Tables → List Lexeme → Type 0
HasFirstFault i ts = HasFault (rules i) file ts
