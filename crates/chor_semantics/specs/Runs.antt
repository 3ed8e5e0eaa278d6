-- Runs of a choreography.
use Rattle.std.specs.Prelude.{ℕ, ◌≡◌, List, [], ◌∷◌, Option, Some, None}
use Rattle.chor_base.specs.declared.event.Event.{Event}
use Rattle.chor_base.specs.Meaning.{Hosts}
use Rattle.chor_base.specs.Events.{IsWithin}
use Rattle.chor_tree.specs.declared.file.File.{File}
use Rattle.chor_semantics.specs.Choreography.{Choreography, Calls, Ends}
use Rattle.chor_semantics.specs.Sources.{Procedure, Configuration, procedures_of, first_configuration}
use Rattle.chor_semantics.specs.Steps.{Steps, procedure_named, body_of}

-- the events lead from one configuration to another, step by step
abbrev pub Leads : List Procedure → Hosts → Configuration → List Event → Configuration → Type 0
Leads procs hosts old [] new = old ≡ new
Leads procs hosts old (e ∷ es) new = (mid : Configuration) × Steps procs hosts old e mid × Leads procs hosts mid es new

-- the end, or a call that passes no process
pub data IsQuiet : Choreography → Type 0 where
  ended : IsQuiet Ends
  nobody : {f : _} {d : ℕ} {ss : _} → IsQuiet (Calls f d [] ss)

-- nothing is left to happen: the end, a call that passes no process, or a call whose body is one of these
pub data IsTerminated (procs : List Procedure) : Choreography → Type 0 where
  quiet : {c : Choreography} → IsQuiet c → IsTerminated procs c
  called : {f : _} {d : ℕ} {ps ss : _} {c : Choreography} → body_of (procedure_named procs f) d ps ss ≡ Some c → IsQuiet c → IsTerminated procs (Calls f d ps ss)

-- no queue ever holds more than the capacity, if there is one
abbrev pub WithinCapacity : Option ℕ → List Event → Type 0
WithinCapacity None h = Unit {0}
WithinCapacity (Some c) h = IsWithin c h

-- A run of a file's choreography, with its last configuration. With a capacity, no queue ever holds more loads
pub record IsRunTo (f : File) (hosts : Hosts) (capacity : Option ℕ) (h : List Event) (last : Configuration) : Type 0 where
  pub leads : Leads (procedures_of f) hosts (first_configuration f) h last
  pub within : WithinCapacity capacity h

-- A run of a file's choreography
abbrev pub IsRun : File → Hosts → Option ℕ → List Event → Type 0
IsRun f hosts capacity h = (last : Configuration) × IsRunTo f hosts capacity h last

-- A run after which nothing is left to happen
abbrev pub IsEndedRun : File → Hosts → Option ℕ → List Event → Type 0
IsEndedRun f hosts capacity h = (last : Configuration) × IsRunTo f hosts capacity h last × IsTerminated (procedures_of f) last.tree
