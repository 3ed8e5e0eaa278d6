-- What is proved: the network's steps and runs are those of the choreography, and the network never gets stuck.
use Rattle.std.specs.Prelude.{ℕ, ◌≡◌, ◌≤◌, true, List, [], ◌∷◌, length, Option, Some, None, slice_get}
use Rattle.std.specs.FinMap as fin
use Rattle.chor_base.specs.declared.names.NameId.{NameId}
use Rattle.chor_base.specs.declared.value.Load.{Load}
use Rattle.chor_base.specs.declared.event.Event.{Event}
use Rattle.chor_base.specs.declared.event.Event.TheVariants as event
use Rattle.chor_base.specs.Meaning.{Hosts}
use Rattle.chor_base.specs.Events.{Triple}
use Rattle.chor_tree.specs.declared.file.File.{File}
use Rattle.chor_semantics.specs.Sources.{Procedure, Configuration, procedures_of, first_configuration}
use Rattle.chor_semantics.specs.Steps.{Steps}
use Rattle.chor_semantics.specs.Runs.{IsRun, IsTerminated}
use Rattle.endpoint_code.specs.declared.code.CodeNode.{CodeNode}
use Rattle.endpoint_code.specs.declared.code.CodeNode.TheVariants as code
use Rattle.endpoint_code.specs.declared.endpoints.Channel.{Channel}
use Rattle.endpoint_code.specs.declared.endpoints.Endpoints.{Endpoints}
use Rattle.endpoint_code.specs.Network.{Machine, NetworkState, Place, NetworkSteps, first_state, queue_of, channel_of, place_of}
use Rattle.endpoint_code.specs.NetworkRuns.{IsNetworkRun, has_ended, all_ended}
use Rattle.well_formed.specs.Linear.{ParameterSets}
use Rattle.well_formed.specs.Holders.{ListedHolders}
use Rattle.correspondence.specs.Corresponds.{Corresponds}
use Rattle.correspondence.specs.Premises.{IsSound, Begins, NoCallFirst, Realizes, HasRoomFor, IsUnhindered}

-- ---- steps

-- the first configuration and the first state correspond
abbrev pub FirstStatesCorrespond : Type 0
FirstStatesCorrespond =
    (e : Endpoints) (f : File) (sets : NameId → ParameterSets) (lists : ListedHolders) → Begins e f sets lists
    → Corresponds e (procedures_of f) sets lists (first_configuration f) (first_state e)

-- the choreography makes this event too, and the correspondence is kept
abbrev pub StepsToo : Endpoints → List Procedure → (NameId → ParameterSets) → ListedHolders → Hosts → Configuration → Event → NetworkState → Type 0
StepsToo e procs sets lists hosts c x m = (d : Configuration) × Steps procs hosts c x d × Corresponds e procs sets lists d m

-- the network makes this event too, and the correspondence is kept
abbrev pub NetworkStepsToo : Endpoints → List Procedure → (NameId → ParameterSets) → ListedHolders → Hosts → Option ℕ → NetworkState → Event → Configuration → Type 0
NetworkStepsToo e procs sets lists hosts cap n x d = (m : NetworkState) × NetworkSteps e hosts cap n x m × Corresponds e procs sets lists d m

-- each step of the network, under any capacity, is a step of the choreography
abbrev pub NetworkStepsAreSteps : Type 0
NetworkStepsAreSteps =
    (e : Endpoints) (procs : List Procedure) (sets : NameId → ParameterSets) (lists : ListedHolders) (hosts : Hosts) → IsSound e procs sets lists
    → (cap : Option ℕ) (c : Configuration) (n m : NetworkState) (x : Event) → Corresponds e procs sets lists c n → NetworkSteps e hosts cap n x m → StepsToo e procs sets lists hosts c x m

-- each step of the choreography for which the capacity leaves room is a step of the network
abbrev pub StepsAreNetworkSteps : Type 0
StepsAreNetworkSteps =
    (e : Endpoints) (procs : List Procedure) (sets : NameId → ParameterSets) (lists : ListedHolders) (hosts : Hosts) → IsSound e procs sets lists → NoCallFirst e
    → (cap : Option ℕ) (c d : Configuration) (n : NetworkState) (x : Event) → Corresponds e procs sets lists c n → Steps procs hosts c x d → HasRoomFor cap n x → NetworkStepsToo e procs sets lists hosts cap n x d

-- ---- runs

-- each run of the network is a run of the choreography with the same events, under the same capacity
abbrev pub NetworkRunsAreRuns : Type 0
NetworkRunsAreRuns =
    (e : Endpoints) (f : File) (sets : NameId → ParameterSets) (lists : ListedHolders) → Realizes e f sets lists
    → (hosts : Hosts) (cap : Option ℕ) (h : List Event) (last : NetworkState) → IsNetworkRun e hosts cap h last → IsRun f hosts cap h

-- and each run of the choreography is one of the network
abbrev pub RunsAreNetworkRuns : Type 0
RunsAreNetworkRuns =
    (e : Endpoints) (f : File) (sets : NameId → ParameterSets) (lists : ListedHolders) → Realizes e f sets lists
    → (hosts : Hosts) (cap : Option ℕ) (h : List Event) → IsRun f hosts cap h → (last : NetworkState) × IsNetworkRun e hosts cap h last

-- ---- the end

-- all processes have ended, and all queues are empty
abbrev pub HasEndedEmpty : Endpoints → NetworkState → Type 0
HasEndedEmpty e n = (all_ended e n.machines ≡ true) × ((t : Triple) → queue_of n t ≡ [])

-- no event can happen
abbrev pub CannotStep : Endpoints → Hosts → Option ℕ → NetworkState → Type 0
CannotStep e hosts cap n = (x : Event) (m : NetworkState) → NetworkSteps e hosts cap n x m → ⊥

-- a network that was reached and in which nothing can happen has ended
abbrev pub NeverStuck : Type 0
NeverStuck =
    (e : Endpoints) (f : File) (sets : NameId → ParameterSets) (lists : ListedHolders) → Realizes e f sets lists
    → (hosts : Hosts) (cap : Option ℕ) → IsUnhindered e f hosts cap → (h : List Event) (n : NetworkState) → IsNetworkRun e hosts cap h n → CannotStep e hosts cap n → HasEndedEmpty e n

-- where nothing is left to happen in the choreography, the network has ended
abbrev pub TerminatedHasEnded : Type 0
TerminatedHasEnded =
    (e : Endpoints) (procs : List Procedure) (sets : NameId → ParameterSets) (lists : ListedHolders) → IsSound e procs sets lists → NoCallFirst e
    → (c : Configuration) (n : NetworkState) → Corresponds e procs sets lists c n → IsTerminated procs c.tree → HasEndedEmpty e n

-- where each process has ended, nothing is left to happen in the choreography
abbrev pub EndedIsTerminated : Type 0
EndedIsTerminated =
    (e : Endpoints) (procs : List Procedure) (sets : NameId → ParameterSets) (lists : ListedHolders) → IsSound e procs sets lists → NoCallFirst e
    → (c : Configuration) (n : NetworkState) → Corresponds e procs sets lists c n → ((a : NameId) (k : Channel) → channel_of e.channels a ≡ Some k → 1 ≤ length k.active)
    → ((p : ℕ) (m : Machine) → slice_get n.machines p ≡ Some m → has_ended e m ≡ true) → IsTerminated procs c.tree

-- ---- loads

-- the name of the session and the role of the sender, where a node receives
abbrev pub source_of : CodeNode → Option (NameId × NameId)
source_of (code.Recv k a y next) = Some (k, a)
source_of (code.Branch k a arms) = Some (k, a)
source_of (code.Catch k a y next) = Some (k, a)
source_of _ = None

-- where process p stands at a node that receives it can receive the first load of the queue, if there is one
abbrev pub TakesFirst : Endpoints → NetworkState → ℕ → Place → Type 0
TakesFirst e n p place =
    (k a : NameId) → source_of place.node ≡ Some (k, a) → (s : ℕ) (b : NameId) → fin.get place.sessions k.0 ≡ Some (s, b)
    → (l : Load) (ls : List Load) → queue_of n (s, a, b) ≡ l ∷ ls → (hosts : Hosts) (cap : Option ℕ) → (m : NetworkState) × NetworkSteps e hosts cap n (event.Recv p s a b l) m

-- so it is with each process of a network that corresponds to a choreography: a value, a label or an endpoint comes where it is awaited
abbrev pub LoadsAreTaken : Type 0
LoadsAreTaken =
    (e : Endpoints) (procs : List Procedure) (sets : NameId → ParameterSets) (lists : ListedHolders) → IsSound e procs sets lists
    → (c : Configuration) (n : NetworkState) → Corresponds e procs sets lists c n
    → (p : ℕ) (m : Machine) → slice_get n.machines p ≡ Some m → (place : Place) → place_of e m ≡ Some place → TakesFirst e n p place
