-- That the text of endpoint programs without a fault has none (this project's own).
use Rattle.std.specs.Prelude.{ℕ, List}
use Rattle.chor_base.specs.declared.rule.Refusal.{Refusal}
use Rattle.endpoint_reader.specs.declared.input.Input.{Input}
use Rattle.endpoint_reader.specs.declared.written.Written.{Written}
use Rattle.endpoint_reader.specs.Files.{units_written}
use Rattle.endpoint_units.specs.Wholes.{IsWritten}
use Rattle.endpoint_names.specs.Faults.{setting}
use Rattle.endpoint_names.specs.Class.{IsFaultless}
use Rattle.endpoint_code.specs.declared.endpoints.Endpoints.{Endpoints}
use Rattle.endpoint_code.specs.Faults as code
use Rattle.endpoint_code.specs.Faults.{AsksKnown, is_listed}
use Rattle.endpoint_check.specs.Programs.{lexemes_of, IsInputOf, ViolatesPrograms}
use Rattle.endpoint_text.specs.Text.{endpoints_text}
use Rattle.endpoint_laws.specs.PrintedLaws.{AreWritable}

-- The units that are written in the text of programs without a fault have none, where host functions have these names
abbrev pub UnitsAreFaultless : Type 0
UnitsAreFaultless =
    (words : List (List ℕ)) (e : Endpoints) (i : Input) (w : Written) → AreWritable e → code.IsFaultless e → AsksKnown (is_listed words e) e → IsInputOf (endpoints_text e) i
    → IsWritten (lexemes_of i) (units_written i w) → IsFaultless (setting w i.names.now words)

-- That text violates none of the rules of endpoint files
abbrev pub TextIsTaken : Type 0
TextIsTaken = (words : List (List ℕ)) (e : Endpoints) (r : Refusal) → AreWritable e → code.IsFaultless e → AsksKnown (is_listed words e) e → ViolatesPrograms words (endpoints_text e) r → ⊥
