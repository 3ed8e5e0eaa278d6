-- What the bytes of a source are.
use Rattle.std.specs.Prelude.{ℕ, ◌≡◌, List, [], None}
use Rattle.chor_base.specs.declared.rule.Place.{Place}
use Rattle.chor_base.specs.declared.rule.Rule.{Rule}
use Rattle.chor_base.specs.declared.rule.Refusal.{Refusal}
use Rattle.chor_base.specs.declared.rule.Denied.{Denied}
use Rattle.chor_base.specs.declared.rule.Denied.TheVariants.{Refused, Memory}
use Rattle.chor_tree.specs.declared.file.File.{File}
use Rattle.chor_lexer.specs.declared.token.Token.{Token}
use Rattle.chor_lexer.specs.Tokens.{AreTokensOf}
use Rattle.chor_lexer.specs.Refusal.{Refuses}
use Rattle.chor_tree.specs.Source.{source_of}
use Rattle.source_grammar.specs.Faults.{IsFirstFault, IsWithin}
use Rattle.source_check.specs.declared.rules.Class.{Class}
use Rattle.source_check.specs.declared.rules.Rules.{Rules}
use Rattle.source_check.specs.Classes.{classes_of, IsFaultless, Breaks}

-- The bytes are the text of this file: their tokens are a source within the limits, which is the file's, and its tables are
-- those that the tokens fill
pub record IsFileOf (bytes : List ℕ) (f : File) : Type 0 where
  pub tokens : List Token
  pub are : AreTokensOf bytes [] [] f.names f.texts tokens
  pub within : IsWithin f.names tokens (source_of f)

-- The bytes are the text of this file, which violates none of these rules, where the host functions have these names
pub record IsAccepted (rules : Rules) (hosts : List (List ℕ)) (bytes : List ℕ) (f : File) : Type 0 where
  pub file : IsFileOf bytes f
  pub faultless : IsFaultless hosts f (classes_of rules)

-- The bytes aren't made of tokens, or their tokens are no source within the limits, by this rule, at this place
pub data IsNoSource (bytes : List ℕ) (rule : Rule) (place : Place) : Type 0 where
  tokens : Refuses bytes rule place → IsNoSource bytes rule place
  grammar : {names texts : List (List ℕ)} {ts : List Token} → AreTokensOf bytes [] [] names texts ts → IsFirstFault names ts rule place → IsNoSource bytes rule place

-- The refusal tells which of the rules the bytes violate, and where, and none of the classes before is violated: they are
-- no source, or the file that they are the text of breaks it
pub data Violates (rules : Rules) (hosts : List (List ℕ)) (bytes : List ℕ) (r : Refusal) : Type 0 where
  unread : IsNoSource bytes r.rule r.place → r.who ≡ None → Violates rules hosts bytes r
  broken : {f : File} → IsFileOf bytes f → Breaks hosts f r (classes_of rules) → Violates rules hosts bytes r

-- ---- refusals; want of memory tells nothing

abbrev pub IsDenialOfTokens : List ℕ → Denied → Type 0
IsDenialOfTokens bytes (Refused r) = IsNoSource bytes r.rule r.place × (r.who ≡ None)
IsDenialOfTokens bytes Memory = Unit {0}

-- a file is refused by these classes
abbrev pub IsBroken : List Class → List (List ℕ) → File → Denied → Type 0
IsBroken classes hosts f (Refused r) = Breaks hosts f r classes
IsBroken classes hosts f Memory = Unit {0}

-- a source is refused by these rules
abbrev pub IsDenialOf : Rules → List (List ℕ) → List ℕ → Denied → Type 0
IsDenialOf rules hosts bytes (Refused r) = Violates rules hosts bytes r
IsDenialOf rules hosts bytes Memory = Unit {0}
