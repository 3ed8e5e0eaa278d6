-- What contracts see of a network.
use Rattle.std.specs.Prelude.{ℕ, ◌≡◌, ◌<◌, ◌^◌, Bool, true, ◌&&◌, List, [], ◌∷◌, ◌++◌, length, map, Option, Some, slice_get, nat_lt, All, ◌-◌, vec_capacity, vec_len}
use Rattle.chor_base.specs.declared.event.Event.{Event}
use Rattle.chor_base.specs.declared.event.Entry.{Entry}
use Rattle.endpoint_code.specs.declared.endpoints.Endpoints.{Endpoints}
use Rattle.endpoint_code.specs.Network.{NetworkState}
use Rattle.endpoint_code.specs.Faults.{IsFaultless}
use Rattle.endpoint_machine.specs.Bound.{IsBound}
use Rattle.endpoint_machine.specs.Heads.{head_of}
use Rattle.endpoint_machine.specs.Views.{MachineView}
use Rattle.post_office.specs.Lanes.{QueuesView, loads_in}
use Rattle.post_office.specs.declared.ledger.Ledger.{Ledger}
use Rattle.session_starts.specs.Machines.{standing_of, is_reserved, AreCounted}
use Rattle.net_core.specs.Machines.{has_queue_room}

-- the programs, the capacity of each queue, the state, the events so far, for each process whether there is room for its next
-- event, and whether the network was stopped
pub record NetworkView : Type 0 where
  pub endpoints : Endpoints
  pub capacity : Option ℕ
  pub state : NetworkState
  pub history : List Entry
  pub reserved : List Bool
  pub stopped : Bool

-- there is room for the next event of a process
abbrev pub IsReserved : NetworkView → ℕ → Type 0
IsReserved v p = slice_get v.reserved p ≡ Some true

-- nothing has changed but the reserved room, and no process has lost that
pub record IsSame (old new : NetworkView) : Type 0 where
  pub endpoints : new.endpoints ≡ old.endpoints
  pub capacity : new.capacity ≡ old.capacity
  pub state : new.state ≡ old.state
  pub history : new.history ≡ old.history
  pub stopped : new.stopped ≡ old.stopped
  pub room : (p : ℕ) → IsReserved old p → IsReserved new p

-- the network has come to a state by one event of a worker, which is now the last
pub record BecomesBy (worker : ℕ) (old new : NetworkView) (x : Event) (n : NetworkState) : Type 0 where
  pub endpoints : new.endpoints ≡ old.endpoints
  pub capacity : new.capacity ≡ old.capacity
  pub state : new.state ≡ n
  pub history : new.history ≡ old.history ++ record { worker = worker; event = x } ∷ []
  pub stopped : new.stopped ≡ old.stopped

-- so it has where there are no workers
abbrev pub Becomes : NetworkView → NetworkView → Event → NetworkState → Type 0
Becomes = BecomesBy 0

-- ---- from the fields

abbrev pub state_of : List MachineView → QueuesView → ℕ → NetworkState
state_of ms q sid = record { machines = map standing_of ms; queues = loads_in q.lanes; sid = sid }

-- a process has room for its next event, where so many entries more fit the history
abbrev pub has_room : Endpoints → ℕ → QueuesView → MachineView → Bool
has_room e entries q m = nat_lt 0 entries && (is_reserved e m && has_queue_room q (head_of e m.machine))

-- what contracts see of a network with these fields
abbrev pub network_of : Endpoints → List MachineView → Ledger → NetworkView
network_of e ms l =
    record { endpoints = e; capacity = l.capacity; state = state_of ms l.queues l.sid; history = l.history.items; reserved = map (has_room e (vec_capacity l.history - vec_len l.history) l.queues) ms; stopped = l.stopped }

-- the programs are without fault, there are fewer than 2^32 processes, each knows its sessions and its number
pub record IsSound (e : Endpoints) (machines : List MachineView) : Type 0 where
  pub faultless : IsFaultless e
  pub few : length machines < 2 ^ 32
  pub bound : All (IsBound e) (map standing_of machines)
  pub counted : AreCounted machines
