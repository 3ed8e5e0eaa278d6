-- Where the processes of a network stand.
use Rattle.std.specs.Prelude.{ℕ, ◌≡◌, ◌<◌, ◌==◌, ◌&&◌, length, Bool, true, false, Option, Some, None, slice_get, if◌then◌else◌}
use Rattle.chor_base.specs.declared.names.NameId.{NameId}
use Rattle.chor_base.specs.declared.event.Why.{Why}
use Rattle.chor_base.specs.declared.event.Why.TheVariants.{Full}
use Rattle.endpoint_code.specs.declared.code.CodeNode.{CodeNode}
use Rattle.endpoint_code.specs.declared.endpoints.Endpoints.{Endpoints}
use Rattle.endpoint_code.specs.Network.{Machine, NetworkState, Sessions, Place, place_at, channel_of, queue_of, has_room}
use Rattle.endpoint_code.specs.NetworkRuns.{has_ended, waits_for, can_step, joins_there, absent_on}
use Rattle.endpoint_code.specs.Scheduled.{is_listed, listed_at, first_role}
use Rattle.endpoint_machine.specs.declared.head.Head.{Head}
use Rattle.endpoint_machine.specs.declared.head.Head.TheVariants as head
use Rattle.endpoint_machine.specs.Bound.{IsBound}
use Rattle.endpoint_machine.specs.Heads.{node_head}
use Rattle.endpoint_machine.specs.Places.{StandsAt}
use Rattle.net_core.specs.Machines.{is_join}

-- the machine of the process stands at this node, through at most one call
pub record Stands (e : Endpoints) (n : NetworkState) (p : ℕ) (node : CodeNode) : Type 0 where
  pub machine : Machine
  pub sessions : Sessions
  pub there : slice_get n.machines p ≡ Some machine
  pub at_node : StandsAt e machine node sessions
  pub bound : IsBound e machine

-- each process stands at a node
abbrev pub EachStands : Endpoints → NetworkState → Type 0
EachStands e n = (p : ℕ) → p < length n.machines → (node : CodeNode) × Stands e n p node

abbrev pub ended_of : Endpoints → Option Machine → Bool
ended_of e None = false
ended_of e (Some m) = has_ended e m

-- a process has ended
abbrev pub ended_at : Endpoints → NetworkState → ℕ → Bool
ended_at e n p = ended_of e (slice_get n.machines p)

abbrev pub why_of : Endpoints → Option ℕ → NetworkState → Option Machine → Option Why
why_of e cap n None = None
why_of e cap n (Some m) = waits_for e cap n m

-- why a process waits, where queues have a capacity
abbrev pub why_at : Endpoints → Option ℕ → NetworkState → ℕ → Option Why
why_at e cap n p = why_of e cap n (slice_get n.machines p)

abbrev pub steps_of : Endpoints → Option ℕ → NetworkState → Option Machine → Bool
steps_of e cap n None = false
steps_of e cap n (Some m) = can_step e cap n m

-- a process can step, where queues have a capacity
abbrev pub steps_at : Endpoints → Option ℕ → NetworkState → ℕ → Bool
steps_at e cap n p = steps_of e cap n (slice_get n.machines p)

abbrev pub listed_of : Endpoints → Option ℕ → NetworkState → Option Machine → Bool
listed_of e cap n None = false
listed_of e cap n (Some m) = is_listed e cap n m

-- a process is one of those from which the pick rule takes, where queues have a capacity
abbrev pub is_listed_at : Endpoints → Option ℕ → NetworkState → ℕ → Bool
is_listed_at e cap n p = listed_of e cap n (slice_get n.machines p)

-- a process stands where it joins channel c in role r
abbrev pub joins_in : Endpoints → NetworkState → ℕ → NameId → NameId → Bool
joins_in e n p c r = joins_there (place_at e (slice_get n.machines p)) c r

-- a process that joins does so in its channel's first active role
abbrev pub leads_at : Endpoints → NetworkState → ℕ → Bool
leads_at e n p = listed_at e (place_at e (slice_get n.machines p))

abbrev pub is_joining : Option Place → Bool
is_joining None = false
is_joining (Some q) = is_join q.node

-- a process stands where it joins a session
abbrev pub joins_at_all : Endpoints → NetworkState → ℕ → Bool
joins_at_all e n p = is_joining (place_at e (slice_get n.machines p))

-- ---- what the next action tells

abbrev pub is_end : Head → Bool
is_end head.Ended = true
is_end _ = false

abbrev pub is_joining_head : Head → Bool
is_joining_head (head.Join c r) = true
is_joining_head _ = false

abbrev pub is_taking : Head → Bool
is_taking (head.Take s a b) = true
is_taking _ = false

abbrev pub joins_as : Head → NameId → NameId → Bool
joins_as (head.Join d q) c r = (d.0 == c.0) && (q.0 == r.0)
joins_as _ c r = false

abbrev pub leads_as : Endpoints → Head → Bool
leads_as e (head.Join c r) = first_role (channel_of e.channels c) r
leads_as e _ = true

-- why a process waits that doesn't take, where queues have a capacity
abbrev pub why_by : Endpoints → Option ℕ → NetworkState → Head → Option Why
why_by e cap n (head.Join c r) = absent_on e n.machines c r (channel_of e.channels c)
why_by e cap n (head.Out s a b) = if has_room cap (queue_of n (s, a, b)) then None else Some (Full s a b)
why_by e cap n _ = None

-- this is the next action of the process, with what it tells
pub record Shows (e : Endpoints) (n : NetworkState) (p : ℕ) (h : Head) : Type 0 where
  pub node : CodeNode
  pub stands : Stands e n p node
  pub head : node_head stands.sessions node ≡ Some h
  pub ended : ended_at e n p ≡ is_end h
  pub joins : (c r : NameId) → joins_in e n p c r ≡ joins_as h c r
  pub leads : leads_at e n p ≡ leads_as e h
  pub joining : joins_at_all e n p ≡ is_joining_head h
  pub waits : (cap : Option ℕ) → is_taking h ≡ false → why_at e cap n p ≡ why_by e cap n h
