-- What was read of a file, as it is written.
use Rattle.std.specs.Prelude.{◌≡◌, ◌-◌, ℕ, List, ◌++◌, length, map}
use Rattle.chor_lexer.specs.Lexeme.{Lexeme}
use Rattle.grammar.specs.Readers.{Leads}
use Rattle.endpoint_grammar.specs.Written.{Units}
use Rattle.endpoint_grammar.specs.Grammar.{Part, units_of}
use Rattle.endpoint_grammar.specs.Values.{rules, Derived, units_from}
use Rattle.endpoint_reader.specs.declared.input.Input.{Input}
use Rattle.endpoint_reader.specs.Tokens.{from}
use Rattle.endpoint_reader.specs.Known.{AreUnitsThere}
use Rattle.endpoint_reader.specs.Units.{AreInside, channel_unit, procedure_unit, service_unit, process_unit}
use Rattle.endpoint_units.specs.declared.parts.Parts.{Parts}
use Rattle.endpoint_units.specs.declared.word.UnitWord.{UnitWord}
use Rattle.endpoint_units.specs.Words.{rest_of, units_by}

-- how many more processes may come
abbrev pub left : Parts → ℕ
left p = 64 - length p.processes

abbrev pub ArePartsInside : Parts → Type 0
ArePartsInside p = AreInside p.lines.items p.procedures p.services p.processes

abbrev pub ArePartsThere : Input → Parts → Type 0
ArePartsThere i p = AreUnitsThere i p.lines.items p.channels p.procedures p.services p.processes

abbrev pub units_in : Input → Parts → Units
units_in i p = record {
  channels = map (channel_unit i) p.channels;
  procedures = map (procedure_unit i p.lines.items) p.procedures;
  services = map (service_unit i p.lines.items) p.services;
  processes = map (process_unit i p.lines.items) p.processes;
}

-- units, and others after them
abbrev pub joined : Units → Units → Units
joined a b = record {
  channels = a.channels ++ b.channels;
  procedures = a.procedures ++ b.procedures;
  services = a.services ++ b.services;
  processes = a.processes ++ b.processes;
}

-- After the units a, of this grammar so much was read that it is the units b; what is left are units of which p may be processes
pub record Goes (g : ℕ → Part) (f : (q : ℕ) → Derived (g q) → Units) (q : ℕ) (ts : List Lexeme) (a b : Units) (p : ℕ) (us : List Lexeme) : Type 0 where
  pub whole : Derived (units_of p) → Derived (g q)
  pub leads : Leads rules (g q) ts (units_of p) us whole
  pub is : (v : Derived (units_of p)) → joined a (f q (whole v)) ≡ joined b (units_from p v)

-- a unit was read after its first word
abbrev pub IsUnit : Input → UnitWord → ℕ → Parts → Parts → ℕ → Type 0
IsUnit i w at old new end = Goes (rest_of w) (units_by w) (left old) (from i at) (units_in i old) (units_in i new) (left new) (from i end)
