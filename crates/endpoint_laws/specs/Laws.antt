-- What holds of the endpoint programs that are written, and of all bytes as endpoint files (this project's own).
use Rattle.std.specs.Prelude.{ℕ, ◌≡◌, List}
use Rattle.endpoint_grammar.specs.Written.{Units}
use Rattle.endpoint_reader.specs.declared.written.Written.{Written}
use Rattle.endpoint_reader.specs.Files.{units_written}
use Rattle.endpoint_code.specs.declared.endpoints.Endpoints.{Endpoints}
use Rattle.endpoint_code.specs.Faults.{IsFaultless as IsFaultlessCode, IsFaultlessWith, AsksKnown, is_listed}
use Rattle.endpoint_names.specs.Faults.{setting}
use Rattle.endpoint_names.specs.Class.{IsFaultless}
use Rattle.endpoint_making.specs.Making.{IsMadeOf}
use Rattle.endpoint_check.specs.Programs.{AreProgramsOf}

-- what is made of units without a fault of names and beginnings has none
abbrev pub MadeIsFaultless : Type 0
MadeIsFaultless =
    (w : Written) (names texts hosts : List (List ℕ)) (e : Endpoints) → IsMadeOf w names texts e → IsFaultless (setting w names hosts)
    → IsFaultlessCode e

-- what is made of units that have no fault of names and beginnings asks no host function but these
abbrev pub MadeAsksKnown : Type 0
MadeAsksKnown =
    (w : Written) (names texts hosts : List (List ℕ)) (e : Endpoints) → IsMadeOf w names texts e → IsFaultless (setting w names hosts)
    → AsksKnown (is_listed hosts e) e

-- and back: where what is made has no fault, the units have none
abbrev pub FaultlessIsMade : Type 0
FaultlessIsMade =
    (w : Written) (names texts hosts : List (List ℕ)) (e : Endpoints) → IsMadeOf w names texts e → IsFaultlessWith hosts e
    → IsFaultless (setting w names hosts)

-- the units of the bytes that endpoint programs are made of, as they are written
abbrev pub units_of : {hosts : List (List ℕ)} {bytes : List ℕ} {e : Endpoints} → AreProgramsOf hosts bytes e → Units
units_of p = units_written p.input p.written

-- Both are made of the same written units, with the same names and the same texts
pub record AreAlike {hosts : List (List ℕ)} {bytes : List ℕ} {e f : Endpoints} (p : AreProgramsOf hosts bytes e) (q : AreProgramsOf hosts bytes f) : Type 0 where
  pub units : units_of p ≡ units_of q
  pub names : e.names ≡ f.names
  pub texts : e.texts ≡ f.texts
