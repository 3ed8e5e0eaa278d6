-- That what is printed can be read (this project's own).
use Rattle.std.specs.Prelude.{◌≤◌, ◌^◌, ℕ, List, length}
use Rattle.endpoint_check.specs.Programs.{AreProgramsOf}
use Rattle.endpoint_code.specs.declared.endpoints.Endpoints.{Endpoints}
use Rattle.endpoint_code.specs.Faults.{IsFaultless, AsksKnown, is_listed}
use Rattle.endpoint_text.specs.Text.{endpoints_text}
use Rattle.endpoint_laws.specs.PrintedLaws.{AreWritable}

-- The text of programs without a fault, where it is no longer than a file may be, is that of some programs
abbrev pub TextIsOfPrograms : Type 0
TextIsOfPrograms =
    (words : List (List ℕ)) (e : Endpoints) → AreWritable e → IsFaultless e → AsksKnown (is_listed words e) e → length (endpoints_text e) ≤ 2 ^ 24
    → (e' : Endpoints) × AreProgramsOf words (endpoints_text e) e'
