-- What the text of endpoint programs is as an endpoint file (this project's own).
use Rattle.std.specs.Prelude.{◌≡◌, List, map}
use Rattle.chor_base.specs.Words.{AllDistinct}
use Rattle.chor_base.specs.declared.rule.Refusal.{Refusal}
use Rattle.chor_base.specs.declared.rule.Denied.TheVariants.{Refused}
use Rattle.chor_lexer.specs.Lexeme.{Lexeme}
use Rattle.chor_lexer.specs.Tokens.{IsTokens}
use Rattle.endpoint_grammar.specs.Written.{Units}
use Rattle.endpoint_units.specs.Wholes.{IsWritten, IsRefusal}
use Rattle.endpoint_code.specs.declared.endpoints.Endpoints.{Endpoints}
use Rattle.endpoint_text.specs.Text.{endpoints_text}
use Rattle.endpoint_laws.specs.Symbols.{endpoints_symbols}
use Rattle.endpoint_laws.specs.Spelled.{AreSpelled}
use Rattle.endpoint_laws.specs.Limits.{AreWithin}
use Rattle.endpoint_laws.specs.Says.{AreUnitsOf}

-- endpoint programs that an endpoint file can be of: words and texts stand once in the tables, each name and expression can be
-- spelled, and the limits of files are kept
pub record AreWritable (e : Endpoints) : Type 0 where
  pub names : AllDistinct e.names
  pub texts : AllDistinct e.texts
  pub spelled : AreSpelled e
  pub within : AreWithin e

-- the tokens are a file, within all limits, of units that say the programs
pub record HaveUnits (e : Endpoints) (ls : List Lexeme) : Type 0 where
  pub units : Units
  pub written : IsWritten ls units
  pub say : AreUnitsOf e units

-- Tokens that say the symbols of the programs are so, wherever they stand
abbrev pub SymbolsAreUnits : Type 0
SymbolsAreUnits = (e : Endpoints) (ls : List Lexeme) → AreWritable e → map (λ l. l.symbol) ls ≡ endpoints_symbols e → HaveUnits e ls

-- So are the tokens of the text of the programs
abbrev pub TextHasUnits : Type 0
TextHasUnits = (e : Endpoints) → AreWritable e → (ls : List Lexeme) × IsTokens (endpoints_text e) ls × HaveUnits e ls

-- Whatever units are written there, they say the programs
abbrev pub UnitsSayThem : Type 0
UnitsSayThem = (e : Endpoints) (ls : List Lexeme) (u : Units) → AreWritable e → IsTokens (endpoints_text e) ls → IsWritten ls u → AreUnitsOf e u

-- No rule of the grammar and its limits is violated there
abbrev pub TokensAreTaken : Type 0
TokensAreTaken = (e : Endpoints) (ls : List Lexeme) (f : Refusal) → AreWritable e → IsTokens (endpoints_text e) ls → IsRefusal ls (Refused f) → ⊥
