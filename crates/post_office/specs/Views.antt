-- What contracts see of an office.
use Rattle.std.specs.Prelude.{◌-◌, ◌≡◌, ℕ, Bool, List, [], ◌∷◌, map, not, Option, Some, None, slice_get, slice_set, Vec, vec_capacity, vec_len}
use Rattle.std.specs.declared.alloc.Global.{Global}
use Rattle.chor_base.specs.declared.names.NameId.{NameId}
use Rattle.chor_base.specs.declared.event.Entry.{Entry}
use Rattle.chor_base.specs.declared.event.Event.{Event}
use Rattle.chor_base.specs.declared.event.Event.TheVariants as event
use Rattle.chor_base.specs.declared.value.Load.{Load}
use Rattle.chor_base.specs.Events.{Triple}
use Rattle.chor_base.specs.Meaning.{Hosts}
use Rattle.endpoint_code.specs.declared.endpoints.Endpoints.{Endpoints}
use Rattle.endpoint_code.specs.Network.{NetworkState, NetworkSteps, has_room, loads_for}
use Rattle.endpoint_code.specs.NetworkRuns.{IsNetworkRun}
use Rattle.post_office.specs.declared.desk.Desk.{Desk}
use Rattle.post_office.specs.declared.ledger.Ledger.{Ledger}
use Rattle.post_office.specs.declared.post.Post.{Post}
use Rattle.post_office.specs.declared.post.Post.TheVariants.{Busy}
use Rattle.post_office.specs.Lanes.{QueuesView, loads_in}

-- Its origin: endpoint programs, host functions by the numbers of their names, and a capacity. Then the events so far, the
-- queues, the next session's number, what was posted of each process and which start it has to take over, how many events
-- more fit without taking memory, and whether it is marked as stopped. The next process's number is how many processes there are
pub record OfficeView : Type 0 where
  pub endpoints : Endpoints
  pub hosts : Hosts
  pub capacity : Option ℕ
  pub history : List Entry
  pub queues : QueuesView
  pub sid : ℕ
  pub desks : List Desk
  pub room : ℕ
  pub stopped : Bool

-- how many events more fit without taking memory
abbrev pub room_in : Vec Entry Global → ℕ
room_in h = vec_capacity h - vec_len h

-- an office by its fields
abbrev pub office_of : Endpoints → Hosts → Ledger → List Desk → OfficeView
office_of e hosts ledger desks =
    record { endpoints = e; hosts = hosts; capacity = ledger.capacity; history = ledger.history.items; queues = ledger.queues; sid = ledger.sid; desks = desks; room = room_in ledger.history; stopped = ledger.stopped }

-- the loads in transit on a triple, the first to be received first
abbrev pub loads_at : QueuesView → Triple → List Load
loads_at q t = loads_for (loads_in q.lanes) t

-- ---- what was posted

abbrev pub post_of : Option Desk → Post
post_of None = Busy
post_of (Some d) = d.post

-- what a process was posted to be doing; it is busy if nothing was
abbrev pub post_at : List Desk → ℕ → Post
post_at ds p = post_of (slice_get ds p)

abbrev pub joined_of : Option Desk → Option ℕ
joined_of None = None
joined_of (Some d) = d.joined

-- the session of its last start, if it hasn't taken that over
abbrev pub joined_at : List Desk → ℕ → Option ℕ
joined_at ds p = joined_of (slice_get ds p)

-- these processes are busy, and the others as they were
abbrev pub made_busy : List ℕ → List Desk → List Desk
made_busy [] ds = ds
made_busy (p ∷ ps) ds = made_busy ps (slice_set ds p (record { post = Busy; joined = joined_at ds p }))

-- nothing is posted of a process
abbrev pub idle : Desk
idle = record { post = Busy; joined = None }

-- these processes are busy, and have the start of this session to take over
abbrev pub all_joined : ℕ → List (NameId × ℕ) → List Desk → List Desk
all_joined s [] ds = ds
all_joined s (q ∷ qs) ds = all_joined s qs (slice_set ds q.1 (record { post = Busy; joined = Some s }))

-- ---- the state after the history

-- the events of entries
abbrev pub events_of : List Entry → List Event
events_of es = map (λ e. e.event) es

-- the events so far are a run of the origin that leads to this state
abbrev pub IsAfter : OfficeView → NetworkState → Type 0
IsAfter v n = IsNetworkRun v.endpoints v.hosts v.capacity (events_of v.history) n

-- after the events so far, this can be the next, whether or not its queue is full
abbrev pub CanMake : OfficeView → Event → Type 0
CanMake v x = (n : NetworkState) → IsAfter v n → (m : NetworkState) × NetworkSteps v.endpoints v.hosts None n x m

-- the process stands where it receives what is first in a queue, if anything is
abbrev pub CanReceive : OfficeView → ℕ → Triple → Type 0
CanReceive v p t = (l : Load) → slice_get (loads_at v.queues t) 0 ≡ Some l → CanMake v (event.Recv p t.0 t.1 t.2 l)

-- a declared capacity is reached on a triple
abbrev pub is_full : OfficeView → Triple → Bool
is_full v t = not (has_room v.capacity (loads_at v.queues t))
