-- When what is posted of a process is true of it (this project's own).
use Rattle.std.specs.Prelude.{◌∷◌, ℕ, ◌≡◌, true, Option, Some, None, [], slice_get}
use Rattle.chor_base.specs.declared.value.Load.{Load}
use Rattle.chor_base.specs.Events.{Triple}
use Rattle.chor_base.specs.declared.event.Why.{Why}
use Rattle.chor_base.specs.declared.event.Why.TheVariants.{Empty, Wrong, Full, Absent}
use Rattle.endpoint_code.specs.declared.endpoints.Endpoints.{Endpoints}
use Rattle.endpoint_code.specs.Network.{Machine, NetworkState, place_of, queue_of}
use Rattle.endpoint_code.specs.NetworkRuns.{has_ended, joins_there, waits_for}
use Rattle.post_office.specs.declared.post.Post.{Post}
use Rattle.post_office.specs.declared.post.Post.TheVariants.{Busy, Joining, Waiting, Ended}

-- nothing is in transit
abbrev pub nothing : NetworkState
nothing = record { machines = []; queues = []; sid = 0 }

-- this load alone is in transit
abbrev pub holding : Triple → Load → NetworkState
holding t l = record { machines = []; queues = (t, l ∷ []) ∷ []; sid = 0 }

-- The process stands at a head that takes from the queue of the cause, so that it waits where nothing is in transit; or that
-- sends on it, so that it waits where a queue has no room at all. The first load of a queue is the wrong one where the process
-- waits with that load alone
abbrev pub IsWaiting : Endpoints → NetworkState → Machine → Why → Type 0
IsWaiting e n m (Empty s a b) = waits_for e None nothing m ≡ Some (Empty s a b)
IsWaiting e n m (Wrong s a b) = (l : Load) × (slice_get (queue_of n (s, a, b)) 0 ≡ Some l) × (waits_for e None (holding (s, a, b) l) m ≡ Some (Wrong s a b))
IsWaiting e n m (Full s a b) = waits_for e (Some 0) nothing m ≡ Some (Full s a b)
IsWaiting e n m (Absent c r) = ⊥

abbrev pub IsPost : Endpoints → NetworkState → Machine → Post → Type 0
IsPost e n m Busy = Unit {0}
IsPost e n m (Joining c r) = joins_there (place_of e m) c r ≡ true
IsPost e n m (Waiting why) = IsWaiting e n m why
IsPost e n m Ended = has_ended e m ≡ true

-- Of a process that isn't there nothing but being busy is true
abbrev pub IsPostOf : Endpoints → NetworkState → Option Machine → Post → Type 0
IsPostOf e n None Busy = Unit {0}
IsPostOf e n None (Joining c r) = ⊥
IsPostOf e n None (Waiting why) = ⊥
IsPostOf e n None Ended = ⊥
IsPostOf e n (Some m) post = IsPost e n m post

-- what is posted of a process is true of it in a state
abbrev pub IsTrueIn : Endpoints → NetworkState → ℕ → Post → Type 0
IsTrueIn e n p post = IsPostOf e n (slice_get n.machines p) post
