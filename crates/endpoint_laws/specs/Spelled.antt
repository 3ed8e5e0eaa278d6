-- Endpoint programs that endpoint files can spell (this project's own): their names are names of the table, no longer than a word may be,
-- and their expressions are those of sources, with numbers that aren't negative, texts that aren't too long, and no endpoints.
use Rattle.std.specs.Prelude.{◌≡◌, ◌≤◌, ℕ, List, Some, length, map, slice_get}
use Rattle.std.specs.List.{AllByRecursion}
use Rattle.chor_base.specs.declared.names.NameId.{NameId}
use Rattle.chor_base.specs.Expr.{Term}
use Rattle.chor_base.specs.declared.rule.Place.{Place}
use Rattle.chor_base.specs.declared.rule.Rule.{Rule}
use Rattle.chor_lexer.specs.Keywords.{IsName}
use Rattle.chor_lexer.specs.Lexeme.{Lexeme, IsLexeme, word}
use Rattle.chor_lexer.specs.Refusal.{Refuses}
use Rattle.chor_lexer.specs.Spelling.{IsSource}
use Rattle.chor_lexer.specs.Tokens.{IsTokens}
use Rattle.canonical_laws.specs.ReadsBack.{HasSymbols}
use Rattle.endpoint_code.specs.declared.code.CodeId.{CodeId}
use Rattle.endpoint_code.specs.declared.endpoints.Channel.{Channel}
use Rattle.endpoint_code.specs.declared.endpoints.Procedure.{Procedure}
use Rattle.endpoint_code.specs.declared.endpoints.ServiceCode.{ServiceCode}
use Rattle.endpoint_code.specs.declared.endpoints.Process.{Process}
use Rattle.endpoint_code.specs.declared.endpoints.Endpoints.{Endpoints}
use Rattle.endpoint_code.specs.Trees.{Action, Joins, Sends, Receives, Selects, Gives, Gains, Sets, Shows, Asks, CodeTree, Does, Offers, Tests, Calls, Ends, Arms, NoArms, Arm, code_at}
use Rattle.endpoint_text.specs.Text.{endpoints_text}
use Rattle.endpoint_laws.specs.Symbols.{endpoints_symbols}

-- the number is that of a name in the table: a word that is no keyword, and no longer than a word may be
pub record IsNamed (e : Endpoints) (x : NameId) : Type 0 where
  pub spelling : List ℕ
  pub is : slice_get e.names x.0 ≡ Some spelling
  pub name : IsName spelling
  pub lexeme : IsLexeme (word spelling) spelling
  pub short : length spelling ≤ 64

abbrev pub AreNamed : Endpoints → List NameId → Type 0
AreNamed e xs = AllByRecursion (IsNamed e) xs

abbrev pub IsWritable : Endpoints → Term → Type 0
IsWritable e t = IsSource e.names e.texts t

abbrev pub IsActionSpelled : Endpoints → Action → Type 0
IsActionSpelled e (Joins c r k) = IsNamed e c × IsNamed e r × IsNamed e k
IsActionSpelled e (Sends k b t) = IsNamed e k × IsNamed e b × IsWritable e t
IsActionSpelled e (Receives k a x) = IsNamed e k × IsNamed e a × IsNamed e x
IsActionSpelled e (Selects k b l) = IsNamed e k × IsNamed e b × IsNamed e l
IsActionSpelled e (Gives k b h) = IsNamed e k × IsNamed e b × IsNamed e h
IsActionSpelled e (Gains k a h) = IsNamed e k × IsNamed e a × IsNamed e h
IsActionSpelled e (Sets x t) = IsNamed e x × IsWritable e t
IsActionSpelled e (Shows t) = IsWritable e t
IsActionSpelled e (Asks x f l r) = IsNamed e x × IsNamed e f × IsWritable e l × IsWritable e r

abbrev mutual
  pub IsCodeSpelled : Endpoints → CodeTree → Type 0
  IsCodeSpelled e (Does a rest) = IsActionSpelled e a × IsCodeSpelled e rest
  IsCodeSpelled e (Offers k a arms) = IsNamed e k × IsNamed e a × AreArmsSpelled e arms
  IsCodeSpelled e (Tests t first second) = IsWritable e t × IsCodeSpelled e first × IsCodeSpelled e second
  IsCodeSpelled e (Calls f p ss) = IsNamed e f × IsNamed e p × AreNamed e ss
  IsCodeSpelled e Ends = Unit {0}

  pub AreArmsSpelled : Endpoints → Arms → Type 0
  AreArmsSpelled e NoArms = Unit {0}
  AreArmsSpelled e (Arm l c rest) = IsNamed e l × IsCodeSpelled e c × AreArmsSpelled e rest

abbrev pub IsBodySpelled : Endpoints → CodeId → Type 0
IsBodySpelled e id = IsCodeSpelled e (code_at e.code.nodes id)

abbrev pub IsChannelSpelled : Endpoints → Channel → Type 0
IsChannelSpelled e c = IsNamed e c.name × AreNamed e c.active × AreNamed e c.serve

abbrev pub IsProcedureSpelled : Endpoints → Procedure → Type 0
IsProcedureSpelled e p = IsNamed e p.name × IsNamed e p.param × AreNamed e p.sessions × IsBodySpelled e p.body

abbrev pub IsServiceSpelled : Endpoints → ServiceCode → Type 0
IsServiceSpelled e s = IsNamed e s.channel × IsNamed e s.role × IsBodySpelled e s.body

abbrev pub IsProcessSpelled : Endpoints → Process → Type 0
IsProcessSpelled e p = IsNamed e p.name × IsBodySpelled e p.body

-- Each name and each expression of the programs can be written
pub record AreSpelled (e : Endpoints) : Type 0 where
  pub channels : AllByRecursion (IsChannelSpelled e) e.channels
  pub procedures : AllByRecursion (IsProcedureSpelled e) e.procedures
  pub services : AllByRecursion (IsServiceSpelled e) e.services
  pub processes : AllByRecursion (IsProcessSpelled e) e.processes

-- The text of such programs has tokens, and they say the symbols of the programs
abbrev pub TextHasSymbols : Type 0
TextHasSymbols = (e : Endpoints) → AreSpelled e → HasSymbols (endpoints_text e) (endpoints_symbols e)

-- It has no others
abbrev pub TokensSayThem : Type 0
TokensSayThem = (e : Endpoints) (ls : List Lexeme) → AreSpelled e → IsTokens (endpoints_text e) ls → map (λ l. l.symbol) ls ≡ endpoints_symbols e

-- It isn't refused by the rules of tokens
abbrev pub TextIsTaken : Type 0
TextIsTaken = (e : Endpoints) (rule : Rule) (place : Place) → AreSpelled e → Refuses (endpoints_text e) rule place → ⊥
