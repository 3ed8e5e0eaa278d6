-- What is answered where a log of events is judged.
use Rattle.std.specs.Prelude.{ℕ, suc, ◌≡◌, ◌<◌, List, length, take, Result, Ok, Err}
use Rattle.chor_base.specs.declared.fault.Fault.{Fault}
use Rattle.chor_base.specs.declared.event.Event.{Event}
use Rattle.chor_tree.specs.declared.file.File.{File}
use Rattle.chor_tree.specs.Names.{declaration_faults}
use Rattle.chor_tree.specs.Protocols.{Protocol}
use Rattle.global_types.specs.Moves.{IsIn}
use Rattle.local_types.specs.Reading.{HasFineRoles}
use Rattle.std.specs.Prelude.{Contains}
use Rattle.conform.specs.declared.fault.ConformFault.{ConformFault}
use Rattle.conform.specs.declared.fault.ConformFault.TheVariants.{Astray, Closed, Memory}
use Rattle.conform.specs.ByRole.{ConformsByRole, HasEndedByRole}

-- The protocols of the file are fit to judge by: no name that it declares has a fault, and no role's view
pub record IsFit (f : File) : Type 0 where
  pub names : (x : Fault) → ¬ Contains (declaration_faults f) x
  pub views : (p : Protocol) → IsIn p f.protocols → HasFineRoles p p.roles

-- the events before number i conform, and with event i they don't
pub record IsAstray (f : File) (xs : List Event) (i : ℕ) : Type 0 where
  pub before : ℕ
  pub number : i ≡ suc before
  pub within : before < length xs
  pub conforms : ConformsByRole f (take before xs)
  pub astray : ¬ ConformsByRole f (take (suc before) xs)

-- What is answered of whether events conform. Want of memory tells nothing
abbrev pub Conforms : File → List Event → Result (Unit {0}) ConformFault → Type 0
Conforms f xs (Ok r) = ConformsByRole f xs
Conforms f xs (Err (Astray i)) = IsAstray f xs i
Conforms f xs (Err Closed) = ⊥
Conforms f xs (Err Memory) = Unit {0}

-- What is answered of whether they also have ended
abbrev pub Closes : File → List Event → Result (Unit {0}) ConformFault → Type 0
Closes f xs (Ok r) = ConformsByRole f xs × HasEndedByRole f xs
Closes f xs (Err (Astray i)) = IsAstray f xs i
Closes f xs (Err Closed) = ConformsByRole f xs × ¬ HasEndedByRole f xs
Closes f xs (Err Memory) = Unit {0}

-- Events that go astray don't conform, and one event alone is the first that goes astray
abbrev pub AstrayOnce : Type 0
AstrayOnce = (f : File) (xs : List Event) (i : ℕ) → IsAstray f xs i → (¬ ConformsByRole f xs) × ((j : ℕ) → IsAstray f xs j → i ≡ j)
