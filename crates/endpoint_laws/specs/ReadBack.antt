-- What is read where the text of endpoint programs was printed (this project's own).
use Rattle.std.specs.Prelude.{ℕ, List}
use Rattle.endpoint_check.specs.Programs.{AreProgramsOf}
use Rattle.endpoint_code.specs.declared.endpoints.Endpoints.{Endpoints}
use Rattle.endpoint_code.specs.Faults.{IsFaultless}
use Rattle.endpoint_text.specs.Text.{endpoints_text}
use Rattle.endpoint_laws.specs.PrintedLaws.{AreWritable}
use Rattle.same_programs.specs.Programs.{SamePrograms, IsCopy}

-- programs e' were read from the text of the programs e, where host functions have these names
pub record AreReadBack (words : List (List ℕ)) (e e' : Endpoints) : Type 0 where
  pub writable : AreWritable e
  pub read : AreProgramsOf words (endpoints_text e) e'

-- They are the same programs, up to the numbers of names and texts and the order of arms
abbrev pub ReadBackAreSame : Type 0
ReadBackAreSame = (words : List (List ℕ)) (e e' : Endpoints) → AreReadBack words e e' → SamePrograms e e'

-- and a copy of programs without a fault
abbrev pub ReadBackAreCopies : Type 0
ReadBackAreCopies = (words : List (List ℕ)) (e e' : Endpoints) → AreReadBack words e e' → IsFaultless e → IsCopy e e'
