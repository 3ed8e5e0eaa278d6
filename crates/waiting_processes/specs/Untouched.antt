-- Whom an event leaves as it was (this project's own).
use Rattle.std.specs.Prelude.{ℕ, ◌≡◌, ◌≢◌, ◌<◌, length, Bool, false, Option, Some, None, slice_get}
use Rattle.chor_base.specs.declared.event.Event.{Event}
use Rattle.chor_base.specs.Meaning.{Hosts}
use Rattle.chor_base.specs.Events.{Triple}
use Rattle.endpoint_code.specs.declared.endpoints.Endpoints.{Endpoints}
use Rattle.endpoint_code.specs.Network.{Machine, NetworkState, queue_of}
use Rattle.endpoint_code.specs.Scheduled.{is_listed, Chooses}
use Rattle.endpoint_machine.specs.declared.head.Head.{Head}
use Rattle.endpoint_machine.specs.Heads.{head_of}
use Rattle.waiting_processes.specs.declared.waits.Awaited.{Awaited}
use Rattle.waiting_processes.specs.declared.waits.Awaited.TheVariants.{Queue, Channel}
use Rattle.waiting_processes.specs.Waits.{touched_by, awaited_at}

-- process p stands at this head
pub record IsAt (e : Endpoints) (n : NetworkState) (p : ℕ) (h : Head) : Type 0 where
  pub machine : Machine
  pub there : slice_get n.machines p ≡ Some machine
  pub head : head_of e machine ≡ Some h

-- process q neither is p nor waits for what an event of p at this head changes
pub record IsOther (e : Endpoints) (cap : Option ℕ) (n : NetworkState) (p : ℕ) (h : Head) (q : ℕ) : Type 0 where
  pub another : q ≢ p
  pub apart : (w : Awaited) → touched_by h ≡ Some w → awaited_at e cap n q ≡ Some w → ⊥

-- the process is the same machine in both states
abbrev pub IsUnmoved : NetworkState → NetworkState → ℕ → Type 0
IsUnmoved n m q = slice_get m.machines q ≡ slice_get n.machines q

-- By an event of p at this head no other process has moved, and no other queue has changed
pub record LeavesOthers (e : Endpoints) (cap : Option ℕ) (n : NetworkState) (p : ℕ) (h : Head) (m : NetworkState) : Type 0 where
  pub machines : (q : ℕ) → q < length n.machines → IsOther e cap n p h q → IsUnmoved n m q
  pub queues : (t : Triple) → (touched_by h ≡ Some (Queue t.0 t.1 t.2) → ⊥) → queue_of m t ≡ queue_of n t

-- nobody who joins a channel has moved
abbrev pub NobodyCame : Endpoints → Option ℕ → NetworkState → NetworkState → Option Awaited → Type 0
NobodyCame e cap n m (Some (Channel c)) = (q : ℕ) → awaited_at e cap m q ≡ Some (Channel c) → IsUnmoved n m q
NobodyCame e cap n m _ = Unit {0}

abbrev pub listed_in : Endpoints → Option ℕ → NetworkState → Option Machine → Bool
listed_in e cap n None = false
listed_in e cap n (Some m) = is_listed e cap n m

-- By an event of p at this head each other process is listed where it was, unless another has come to the channel that it joins
abbrev pub KeepsListed : Endpoints → Option ℕ → NetworkState → ℕ → Head → NetworkState → Type 0
KeepsListed e cap n p h m = (q : ℕ) → q < length n.machines → IsOther e cap n p h q → NobodyCame e cap n m (awaited_at e cap n q)
    → listed_in e cap m (slice_get m.machines q) ≡ listed_in e cap n (slice_get n.machines q)

-- By an event that a process chooses at its head no other process has moved, and no other queue has changed
abbrev pub OthersStay : Type 0
OthersStay = (e : Endpoints) (hosts : Hosts) (capacity : Option ℕ) (n m : NetworkState) (p : ℕ) (x : Event) (h : Head) → IsAt e n p h → Chooses e hosts capacity n p x m → LeavesOthers e capacity n p h m

-- Where this is so each other process is listed where it was, unless another has come to the channel that it joins
abbrev pub OthersStayListed : Type 0
OthersStayListed = (e : Endpoints) (capacity : Option ℕ) (n m : NetworkState) (p : ℕ) (h : Head) → IsAt e n p h → LeavesOthers e capacity n p h m → KeepsListed e capacity n p h m
