-- What the calls of an office change and answer.
use Rattle.std.specs.Prelude.{ℕ, ◌≡◌, ◌+◌, ◌≤◌, ◌++◌, Bool, true, false, [], ◌∷◌, Some, None, drop, slice_get, slice_set}
use Rattle.chor_base.specs.declared.value.Load.{Load}
use Rattle.chor_base.specs.declared.event.Event.{Event}
use Rattle.chor_base.specs.declared.event.Event.TheVariants as event
use Rattle.chor_base.specs.Events.{Triple, actors_of}
use Rattle.endpoint_code.specs.Network.{with_loads}
use Rattle.post_office.specs.declared.post.Post.{Post}
use Rattle.post_office.specs.declared.post.Sent.{Sent as Sending}
use Rattle.post_office.specs.declared.post.Sent.TheVariants.{Sent, Full}
use Rattle.post_office.specs.declared.post.Received.{Received}
use Rattle.post_office.specs.declared.post.Received.TheVariants.{Got, Empty}
use Rattle.post_office.specs.Lanes.{QueuesView, KeepsRoom, loads_in, room_on}
use Rattle.post_office.specs.Views.{OfficeView, loads_at, made_busy, is_full}

-- one load more on a triple, after all others, and the other queues that were there keep their room
pub record HasPut (old : QueuesView) (t : Triple) (l : Load) (new : QueuesView) : Type 0 where
  pub loads : loads_in new.lanes ≡ with_loads (loads_in old.lanes) t (loads_at old t ++ l ∷ [])
  pub room : KeepsRoom old t new

-- the first load of a triple is gone, and there is no less room
pub record HasTaken (old : QueuesView) (t : Triple) (new : QueuesView) : Type 0 where
  pub loads : loads_in new.lanes ≡ with_loads (loads_in old.lanes) t (drop 1 (loads_at old t))
  pub room : (u : Triple) → room_on old u ≤ room_on new u

-- nothing has changed but room, of which there is no less
pub record IsSame (old new : OfficeView) : Type 0 where
  pub endpoints : new.endpoints ≡ old.endpoints
  pub hosts : new.hosts ≡ old.hosts
  pub capacity : new.capacity ≡ old.capacity
  pub history : new.history ≡ old.history
  pub queues : loads_in new.queues.lanes ≡ loads_in old.queues.lanes
  pub sid : new.sid ≡ old.sid
  pub desks : new.desks ≡ old.desks
  pub stopped : new.stopped ≡ old.stopped
  pub room : old.room ≤ new.room
  pub places : (t : Triple) → room_on old.queues t ≤ room_on new.queues t

-- one event more of this worker, of the same origin
pub record HasNoted (old : OfficeView) (worker : ℕ) (x : Event) (new : OfficeView) : Type 0 where
  pub endpoints : new.endpoints ≡ old.endpoints
  pub hosts : new.hosts ≡ old.hosts
  pub capacity : new.capacity ≡ old.capacity
  pub history : new.history ≡ old.history ++ record { worker = worker; event = x } ∷ []
  pub stopped : new.stopped ≡ old.stopped
  pub room : old.room ≤ new.room + 1

-- one event more that starts no session: its process is busy, and the others are as they were
pub record HasActed (old : OfficeView) (worker : ℕ) (x : Event) (new : OfficeView) : Type 0 where
  pub noted : HasNoted old worker x new
  pub sid : new.sid ≡ old.sid
  pub desks : new.desks ≡ made_busy (actors_of x) old.desks

-- What a send answers: the load is the last of its queue and the event the last of the history; or the capacity is reached
abbrev pub AnswersSend : OfficeView → ℕ → ℕ → Triple → Load → Sending → OfficeView → Type 0
AnswersSend old worker p t l Sent new = (is_full old t ≡ false) × HasPut old.queues t l new.queues × HasActed old worker (event.Send p t.0 t.1 t.2 l) new
AnswersSend old worker p t l Full new = (is_full old t ≡ true) × (new ≡ old)

-- What a receipt answers: the queue's first load, which is gone, and the event is the last of the history; or the queue is empty
abbrev pub AnswersReceipt : OfficeView → ℕ → ℕ → Triple → Received → OfficeView → Type 0
AnswersReceipt old worker p t (Got l) new = (slice_get (loads_at old.queues t) 0 ≡ Some l) × HasTaken old.queues t new.queues × HasActed old worker (event.Recv p t.0 t.1 t.2 l) new
AnswersReceipt old worker p t Empty new = (loads_at old.queues t ≡ []) × (new ≡ old)

-- a process is posted to be doing this, and has no start to take over
abbrev pub posted : OfficeView → ℕ → Post → OfficeView
posted v p post = record v { desks = slice_set v.desks p (record { post = post; joined = None }) }

-- an event of one process that touches no queue
abbrev pub is_local : Event → Bool
is_local (event.Start c s ps) = false
is_local (event.Send p s a b l) = false
is_local (event.Recv p s a b l) = false
is_local (event.Test p b) = true
is_local (event.Set p x v) = true
is_local (event.Show p v) = true
is_local (event.Host p x f a b v) = true
