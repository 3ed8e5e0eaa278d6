-- What holds of the runs of a file whose names, protocols and types have no fault.
use Rattle.std.specs.Prelude.{ℕ, ◌≡◌, ◌⊎◌, List, [], Option}
use Rattle.chor_base.specs.declared.event.Event.{Event}
use Rattle.chor_base.specs.declared.fault.Fault.{Fault}
use Rattle.chor_base.specs.Meaning.{Hosts}
use Rattle.chor_tree.specs.declared.file.File.{File}
use Rattle.chor_tree.specs.Names.{IsNameFault}
use Rattle.chor_semantics.specs.Sources.{Configuration, procedures_of}
use Rattle.chor_semantics.specs.Runs.{IsRun, IsRunTo, IsEndedRun, IsTerminated}
use Rattle.global_types.specs.Faults.{faults_of}
use Rattle.well_formed.specs.Asked.{IsAnswered}
use Rattle.typing_rules.specs.TypeFaults.{IsTyped}
use Rattle.typing_rules.specs.Guarded.{IsGuarded}
use Rattle.typed_sources.specs.History.{SessionsConform, SessionsEnd}
use Rattle.typed_sources.specs.Going.{CanStep}
use Rattle.typed_sources.specs.Stands.{kind_in, states_in}

-- no fault of names, where the host functions have these names, none of protocols and none of types
pub record IsAccepted (f : File) (hosts : List (List ℕ)) : Type 0 where
  pub names : (x : Fault) → ¬ IsNameFault f hosts x
  pub protocols : faults_of f ≡ []
  pub types : IsTyped f

-- in each run the sessions conform to their protocols
abbrev pub RunsConform : Type 0
RunsConform =
    (f : File) (words : List (List ℕ)) → IsAccepted f words → (hosts : Hosts) (capacity : Option ℕ) (h : List Event) → IsRun f hosts capacity h
    → SessionsConform (kind_in f) (states_in f) h

-- and where nothing is left to happen they have ended
abbrev pub EndedRunsEnd : Type 0
EndedRunsEnd =
    (f : File) (words : List (List ℕ)) → IsAccepted f words → (hosts : Hosts) (capacity : Option ℕ) (h : List Event) → IsEndedRun f hosts capacity h
    → SessionsEnd (kind_in f) (states_in f) h

-- after each run of a guarded file nothing is left to happen, or something can happen
abbrev pub NeverStuck : Type 0
NeverStuck =
    (f : File) (words : List (List ℕ)) → IsAccepted f words → IsGuarded f → (hosts : Hosts) → IsAnswered f hosts
    → (capacity : Option ℕ) (h : List Event) (last : Configuration) → IsRunTo f hosts capacity h last
    → IsTerminated (procedures_of f) last.tree ⊎ CanStep (procedures_of f) hosts last.vars last.sid last.tree
