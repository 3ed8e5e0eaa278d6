-- What the bytes of an endpoint file are (this project's own).
use Rattle.std.specs.Prelude.{ℕ, ◌≡◌, List, [], map, None}
use Rattle.chor_base.specs.declared.rule.Refusal.{Refusal}
use Rattle.chor_base.specs.declared.rule.Denied.{Denied}
use Rattle.chor_base.specs.declared.rule.Denied.TheVariants.{Refused, Memory}
use Rattle.chor_lexer.specs.Lexeme.{Lexeme}
use Rattle.chor_lexer.specs.Refusal.{Refuses}
use Rattle.chor_lexer.specs.Tokens.{AreTokensOf}
use Rattle.endpoint_reader.specs.declared.input.Input.{Input}
use Rattle.endpoint_reader.specs.declared.written.Written.{Written}
use Rattle.endpoint_reader.specs.Files.{units_written}
use Rattle.endpoint_reader.specs.Known.{IsWrittenThere}
use Rattle.endpoint_reader.specs.Tokens.{lexeme_of}
use Rattle.endpoint_units.specs.Wholes.{IsWritten, IsRefusal}
use Rattle.endpoint_names.specs.Faults.{setting}
use Rattle.endpoint_names.specs.Class.{IsFaultless, IsBroken}
use Rattle.endpoint_code.specs.declared.endpoints.Endpoints.{Endpoints}
use Rattle.endpoint_making.specs.Making.{IsMadeOf}

-- the tokens of a file, as they are written
abbrev pub lexemes_of : Input → List Lexeme
lexemes_of i = map (lexeme_of i) i.tokens.now.items

-- these are the tokens of the bytes, with tables of names and texts that hold nothing else
abbrev pub IsInputOf : List ℕ → Input → Type 0
IsInputOf bytes i = AreTokensOf bytes [] [] i.names.now i.texts.now i.tokens.now.items

-- The tokens are a file of the units that are written, within all limits; each literal and variable is the one that its token says;
-- and the units have no fault, where host functions have these names
pub record IsWrittenWithoutFault (words : List (List ℕ)) (i : Input) (w : Written) : Type 0 where
  pub written : IsWritten (lexemes_of i) (units_written i w)
  pub there : IsWrittenThere i w
  pub faultless : IsFaultless (setting w i.names.now words)

-- The bytes are the text of these endpoint programs, which have no fault, where host functions have these names
pub record AreProgramsOf (words : List (List ℕ)) (bytes : List ℕ) (e : Endpoints) : Type 0 where
  pub input : Input
  pub tokens : IsInputOf bytes input
  pub written : Written
  pub fine : IsWrittenWithoutFault words input written
  pub made : IsMadeOf written input.names.now input.texts.now e

-- ---- refusals

-- The tokens are no file, by the rule that the refusal tells and there first, or the units that are written have a fault, of which
-- it tells the first
pub data BreaksOff (words : List (List ℕ)) (i : Input) (r : Refusal) : Type 0 where
  grammar : IsRefusal (lexemes_of i) (Refused r) → BreaksOff words i r
  names : (w : Written) → IsWritten (lexemes_of i) (units_written i w) → IsBroken (setting w i.names.now words) (Refused r) → BreaksOff words i r

-- The refusal tells which of the rules of endpoint files the bytes violate, and where: those of tokens, else those of the grammar and its
-- limits, else those of names, else that of how procedures begin
pub data ViolatesPrograms (words : List (List ℕ)) (bytes : List ℕ) (r : Refusal) : Type 0 where
  unread : Refuses bytes r.rule r.place → r.who ≡ None → ViolatesPrograms words bytes r
  broken : (i : Input) → IsInputOf bytes i → BreaksOff words i r → ViolatesPrograms words bytes r

-- the tokens are refused so; want of memory tells nothing
pub data IsDenialOfInput (words : List (List ℕ)) (i : Input) : Denied → Type 0 where
  refused : {r : Refusal} → BreaksOff words i r → IsDenialOfInput words i (Refused r)
  no_memory : IsDenialOfInput words i Memory

abbrev pub IsDenialOfPrograms : List (List ℕ) → List ℕ → Denied → Type 0
IsDenialOfPrograms words bytes (Refused r) = ViolatesPrograms words bytes r
IsDenialOfPrograms words bytes Memory = Unit {0}
