-- What is proved of endpoint programs that are the same.
use Rattle.std.specs.Prelude.{ℕ, ◌≡◌, List, Option}
use Rattle.std.specs.List.{AllZip}
use Rattle.chor_base.specs.declared.event.Event.{Event}
use Rattle.chor_base.specs.Meaning.{Hosts}
use Rattle.chor_host.specs.Functions.{Function, hosts_in}
use Rattle.endpoint_code.specs.declared.endpoints.Endpoints.{Endpoints}
use Rattle.endpoint_code.specs.Network.{Machine, NetworkState, NetworkSteps, first_state}
use Rattle.endpoint_code.specs.NetworkRuns.{IsNetworkRun, has_ended, all_ended, can_step, waits_for}
use Rattle.endpoint_code.specs.Scheduled.{Close, IsScheduled}
use Rattle.same_programs.specs.Words.{SameName, SameText, HasDistinctWords, BothOrNeither}
use Rattle.same_programs.specs.Programs.{SamePrograms, IsCopy, SameHosts}
use Rattle.same_programs.specs.States.{SameEvent, SameWhy, SameClose, SameState}

-- the same event, of the programs e and of the programs e'
abbrev pub Agrees : Endpoints → Endpoints → Event → Event → Type 0
Agrees e e' x y = SameEvent (SameName e e') (SameText e e') x y

-- programs are the same as themselves
abbrev pub SameIsReflexive : Type 0
SameIsReflexive = (e : Endpoints) → SamePrograms e e

-- being the same goes both ways
abbrev pub SameIsSymmetric : Type 0
SameIsSymmetric = (e e' : Endpoints) → SamePrograms e e' → SamePrograms e' e

-- host functions by their names are the same in both tables
abbrev pub NamedHostsAreSame : Type 0
NamedHostsAreSame =
    (e e' : Endpoints) (functions : List Function) → HasDistinctWords e → HasDistinctWords e'
    → SameHosts e e' (hosts_in e.names functions) (hosts_in e'.names functions)

-- the first states are the same
abbrev pub FirstStatesAreSame : Type 0
FirstStatesAreSame = (e e' : Endpoints) → IsCopy e e' → SameState e e' (first_state e) (first_state e')

-- a step of e' by the same event to the same state
pub record StepsAlike (e e' : Endpoints) (hosts : Hosts) (cap : Option ℕ) (n : NetworkState) (x : Event) (m : NetworkState) : Type 0 where
  pub event : Event
  pub state : NetworkState
  pub steps : NetworkSteps e' hosts cap n event state
  pub same_event : Agrees e e' x event
  pub same_state : SameState e e' m state

-- from the same states the same events lead to the same states
abbrev pub StepsAreSame : Type 0
StepsAreSame =
    (e e' : Endpoints) (hosts hosts' : Hosts) (cap : Option ℕ) (n n' m : NetworkState) (x : Event) → IsCopy e e' → SameHosts e e' hosts hosts'
    → SameState e e' n n' → NetworkSteps e hosts cap n x m → StepsAlike e e' hosts' cap n' x m

-- a process has ended in both or in neither, can step in both or in neither, and waits for the same cause
pub record StandsAlike (e e' : Endpoints) (cap : Option ℕ) (n n' : NetworkState) (m m' : Machine) : Type 0 where
  pub ended : has_ended e m ≡ has_ended e' m'
  pub steps : can_step e cap n m ≡ can_step e' cap n' m'
  pub waits : BothOrNeither (SameWhy (SameName e e')) (waits_for e cap n m) (waits_for e' cap n' m')

-- in the same states each process stands alike
abbrev pub ProcessesStandAlike : Type 0
ProcessesStandAlike =
    (e e' : Endpoints) (cap : Option ℕ) (n n' : NetworkState) → IsCopy e e' → SameState e e' n n'
    → AllZip (StandsAlike e e' cap n n') n.machines n'.machines

-- in the same states all have ended or not
abbrev pub EndsAreSame : Type 0
EndsAreSame = (e e' : Endpoints) (n n' : NetworkState) → IsCopy e e' → SameState e e' n n' → all_ended e n.machines ≡ all_ended e' n'.machines

-- a run of the network of e' with the same events to the same state
pub record RunsAlike (e e' : Endpoints) (hosts : Hosts) (cap : Option ℕ) (h : List Event) (last : NetworkState) : Type 0 where
  pub events : List Event
  pub state : NetworkState
  pub run : IsNetworkRun e' hosts cap events state
  pub same_events : AllZip (Agrees e e') h events
  pub same_state : SameState e e' last state

-- each run of the network of e is one of the network of e'
abbrev pub RunsAreSame : Type 0
RunsAreSame =
    (e e' : Endpoints) (hosts hosts' : Hosts) (cap : Option ℕ) (h : List Event) (last : NetworkState) → IsCopy e e' → SameHosts e e' hosts hosts'
    → IsNetworkRun e hosts cap h last → RunsAlike e e' hosts' cap h last

-- the scheduled run of the network of e' has the same events and the same close
pub record IsScheduledAlike (e e' : Endpoints) (hosts : Hosts) (cap : Option ℕ) (seed steps : ℕ) (h : List Event) (last : NetworkState) (close : Close) : Type 0 where
  pub events : List Event
  pub state : NetworkState
  pub closed : Close
  pub scheduled : IsScheduled e' hosts cap seed steps (first_state e') 0 events state closed
  pub same_events : AllZip (Agrees e e') h events
  pub same_state : SameState e e' last state
  pub same_close : SameClose (SameName e e') close closed

-- the scheduled runs are the same
abbrev pub ScheduledRunsAreSame : Type 0
ScheduledRunsAreSame =
    (e e' : Endpoints) (hosts hosts' : Hosts) (cap : Option ℕ) (seed steps : ℕ) (h : List Event) (last : NetworkState) (close : Close) → IsCopy e e'
    → SameHosts e e' hosts hosts' → IsScheduled e hosts cap seed steps (first_state e) 0 h last close
    → IsScheduledAlike e e' hosts' cap seed steps h last close
