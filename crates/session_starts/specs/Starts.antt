-- Starts of sessions.
use Rattle.std.specs.Prelude.{ℕ, ◌≡◌, ◌≢◌, ◌++◌, Bool, true, false, List, [], ◌∷◌, map, Option, Some, None, slice_get, slice_set, All}
use Rattle.chor_base.specs.declared.names.NameId.{NameId}
use Rattle.endpoint_code.specs.declared.endpoints.Channel.{Channel}
use Rattle.endpoint_code.specs.declared.endpoints.Endpoints.{Endpoints}
use Rattle.endpoint_code.specs.Network.{Machine, NetworkState, place_at, joins, joiners, with_machines, served}
use Rattle.endpoint_code.specs.NetworkRuns.{joins_there}
use Rattle.endpoint_machine.specs.Views.{MachineView}
use Rattle.session_starts.specs.Machines.{standing_of, is_reserved}

-- each process joins the channel in its role
abbrev pub AllJoin : Endpoints → List Machine → NameId → List (NameId × ℕ) → Type 0
AllJoin e ms c ps = All (λ q. joins_there (place_at e (slice_get ms q.1)) c q.0 ≡ true) ps

-- no process has two parts
pub data AreApart : List (NameId × ℕ) → Type 0 where
  no_part : AreApart []
  one_part : {r : NameId} {p : ℕ} {ps : List (NameId × ℕ)} → All (λ q. q.1 ≢ p) ps → AreApart ps → AreApart ((r, p) ∷ ps)

abbrev pub reserved_of : Endpoints → Option MachineView → Bool
reserved_of e None = false
reserved_of e (Some m) = is_reserved e m

-- a process has room for its next event
abbrev pub reserved_in : Endpoints → List MachineView → ℕ → Bool
reserved_in e ms p = reserved_of e (slice_get ms p)

abbrev pub machines_alone : List Machine → NetworkState
machines_alone ms = record { machines = ms; queues = []; sid = 0 }

-- by joining session s in these parts the machines become others
pub record Joined (e : Endpoints) (c : NameId) (s : ℕ) (old : List Machine) (ps : List (NameId × ℕ)) (new : List Machine) : Type 0 where
  pub joining : List (ℕ × Machine)
  pub all : joiners e (machines_alone old) c s ps ≡ Some joining
  pub placed : with_machines old joining ≡ new

-- one process has joined session s, and no other has changed
pub record JoinsOne (e : Endpoints) (c r : NameId) (s p : ℕ) (old new : List MachineView) : Type 0 where
  pub machine : MachineView
  pub joined : joins e (slice_get (map standing_of old) p) c r s ≡ Some (standing_of machine)
  pub put : new ≡ slice_set old p machine

-- session s has started on a channel: these processes have joined it, and after all others there is a new one for each service role
pub record HasStarted (e : Endpoints) (k : Channel) (s : ℕ) (old : List Machine) (ps : List (NameId × ℕ)) (new : List Machine) : Type 0 where
  pub joined : List Machine
  pub joins : Joined e k.name s old ps joined
  pub serves : new ≡ joined ++ served e k.name s k.serve
