-- What is proved of all endpoint programs that some bytes are the text of (this project's own): their text is printed and reads back.
use Rattle.std.specs.Prelude.{ℕ, ◌≡◌, ◌≤◌, ◌^◌, List, length}
use Rattle.chor_base.specs.declared.rule.Refusal.{Refusal}
use Rattle.endpoint_check.specs.Programs.{AreProgramsOf, ViolatesPrograms}
use Rattle.endpoint_code.specs.declared.endpoints.Endpoints.{Endpoints}
use Rattle.endpoint_laws.specs.PrintedLaws.{AreWritable}
use Rattle.endpoint_text.specs.Text.{endpoints_text}
use Rattle.same_programs.specs.Programs.{SamePrograms}

-- an endpoint file can be of them
abbrev pub ProgramsOfBytesAreWritable : Type 0
ProgramsOfBytesAreWritable = (hosts : List (List ℕ)) (bytes : List ℕ) (e : Endpoints) → AreProgramsOf hosts bytes e → AreWritable e

-- their text violates no rule of endpoint files
abbrev pub PrintedAgainIsFine : Type 0
PrintedAgainIsFine =
    (hosts : List (List ℕ)) (bytes : List ℕ) (e : Endpoints) → AreProgramsOf hosts bytes e
    → (r : Refusal) → ViolatesPrograms hosts (endpoints_text e) r → ⊥

-- where it is no longer than a file may be, it is the text of endpoint programs
abbrev pub PrintedAgainIsRead : Type 0
PrintedAgainIsRead =
    (hosts : List (List ℕ)) (bytes : List ℕ) (e : Endpoints) → AreProgramsOf hosts bytes e → length (endpoints_text e) ≤ 2 ^ 24
    → (f : Endpoints) × AreProgramsOf hosts (endpoints_text e) f

-- what is read from it are the same programs
abbrev pub ReadAgainAreSame : Type 0
ReadAgainAreSame =
    (hosts : List (List ℕ)) (bytes : List ℕ) (e f : Endpoints) → AreProgramsOf hosts bytes e → AreProgramsOf hosts (endpoints_text e) f → SamePrograms e f

-- programs that are the same have the same text
abbrev pub SameProgramsHaveOneText : Type 0
SameProgramsHaveOneText = (hosts : List (List ℕ)) (bytes : List ℕ) (e f : Endpoints) → AreProgramsOf hosts bytes e → SamePrograms e f → endpoints_text e ≡ endpoints_text f

-- so what is read from it is printed as it stands
abbrev pub PrintedAgainIsOneText : Type 0
PrintedAgainIsOneText =
    (hosts : List (List ℕ)) (bytes : List ℕ) (e f : Endpoints) → AreProgramsOf hosts bytes e → AreProgramsOf hosts (endpoints_text e) f
    → endpoints_text f ≡ endpoints_text e

-- programs with the same text, where it is no longer than a file may be, are the same
abbrev pub TextsTellPrograms : Type 0
TextsTellPrograms =
    (hosts : List (List ℕ)) (bytes others : List ℕ) (e f : Endpoints) → AreProgramsOf hosts bytes e → AreProgramsOf hosts others f
    → length (endpoints_text e) ≤ 2 ^ 24 → endpoints_text e ≡ endpoints_text f → SamePrograms e f
