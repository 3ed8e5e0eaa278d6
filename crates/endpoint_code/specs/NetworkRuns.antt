-- Runs of a network, and why a process waits.
use Rattle.std.specs.Prelude.{ℕ, ◌≡◌, ◌==◌, ◌&&◌, ◌||◌, Bool, true, false, List, [], ◌∷◌, Option, Some, None, if◌then◌else◌, is_some}
use Rattle.std.specs.FinMap as fin
use Rattle.chor_base.specs.declared.names.NameId.{NameId}
use Rattle.chor_base.specs.declared.value.Load.{Load}
use Rattle.chor_base.specs.declared.event.Event.{Event}
use Rattle.chor_base.specs.declared.event.Why.{Why}
use Rattle.chor_base.specs.declared.event.Why.TheVariants.{Empty, Wrong, Full, Absent}
use Rattle.chor_base.specs.NameMap.{Variables}
use Rattle.chor_base.specs.Meaning.{Hosts}
use Rattle.endpoint_code.specs.declared.code.CodeNode.{CodeNode}
use Rattle.endpoint_code.specs.declared.code.CodeNode.TheVariants.{Join, Send, Recv, Pick, Branch, Throw, Catch, End}
use Rattle.endpoint_code.specs.declared.endpoints.Channel.{Channel}
use Rattle.endpoint_code.specs.declared.endpoints.Endpoints.{Endpoints}
use Rattle.endpoint_code.specs.Network.{Sessions, Machine, NetworkState, Place, Taking, queue_of, place_of, has_room, takes_value, takes_label, takes_part, channel_of, NetworkSteps, first_state}

-- The events lead from one state to another, step by step
abbrev pub NetworkLeads : Endpoints → Hosts → Option ℕ → NetworkState → List Event → NetworkState → Type 0
NetworkLeads e hosts capacity old [] new = old ≡ new
NetworkLeads e hosts capacity old (x ∷ xs) new = (mid : NetworkState) × NetworkSteps e hosts capacity old x mid × NetworkLeads e hosts capacity mid xs new

-- A run of the network of e: events that lead from its first state to this one
abbrev pub IsNetworkRun : Endpoints → Hosts → Option ℕ → List Event → NetworkState → Type 0
IsNetworkRun e hosts capacity h last = NetworkLeads e hosts capacity (first_state e) h last

-- ---- ended processes

-- a process that is at this place has ended
abbrev pub ends_there : Option Place → Bool
ends_there None = false
ends_there (Some q) = at_head q.node
  where
    at_head : CodeNode → Bool
    at_head End = true
    at_head _ = false

-- a process has ended where its head, through at most one call, is the end
abbrev pub has_ended : Endpoints → Machine → Bool
has_ended e m = ends_there (place_of e m)

-- every process has ended
abbrev pub all_ended : Endpoints → List Machine → Bool
all_ended e [] = true
all_ended e (m ∷ ms) = has_ended e m && all_ended e ms

-- ---- why a process waits

-- a process that is at this place joins channel c in role r
abbrev pub joins_there : Option Place → NameId → NameId → Bool
joins_there None c r = false
joins_there (Some q) c r = at_head q.node
  where
    at_head : CodeNode → Bool
    at_head (Join d o k next) = (d.0 == c.0) && (o.0 == r.0)
    at_head _ = false

-- some process stands where it joins channel c in role r
abbrev pub is_joined : Endpoints → List Machine → NameId → NameId → Bool
is_joined e [] c r = false
is_joined e (m ∷ ms) c r = joins_there (place_of e m) c r || is_joined e ms c r

-- the first of these roles, other than the process's own, that nobody joins
abbrev pub absent_among : Endpoints → List Machine → NameId → NameId → List NameId → Option Why
absent_among e ms c own [] = None
absent_among e ms c own (r ∷ rs) = if (r.0 == own.0) || is_joined e ms c r then absent_among e ms c own rs else Some (Absent c r)

-- the active role of a channel in which nobody joins, if there is one
abbrev pub absent_on : Endpoints → List Machine → NameId → NameId → Option Channel → Option Why
absent_on e ms c own None = None
absent_on e ms c own (Some k) = absent_among e ms c own k.active

-- a process waits to send where the queue has reached its capacity
abbrev pub waits_to_send : Option ℕ → NetworkState → NameId → Option (ℕ × NameId) → Option Why
waits_to_send capacity n b None = None
waits_to_send capacity n b (Some (s, a)) = if has_room capacity (queue_of n (s, a, b)) then None else Some (Full s a b)

-- a process waits to receive where the queue is empty, or its first load isn't one that it takes
abbrev pub waits_for_first : ℕ → NameId → NameId → (Load → Option Taking) → List Load → Option Why
waits_for_first s a b f [] = Some (Empty s a b)
waits_for_first s a b f (l ∷ rest) = if is_some (f l) then None else Some (Wrong s a b)

-- the cause by which a process waits to receive on a session, if it does
abbrev pub waits_to_receive : NetworkState → NameId → Option (ℕ × NameId) → (Load → Option Taking) → Option Why
waits_to_receive n a None f = None
waits_to_receive n a (Some (s, b)) f = waits_for_first s a b f (queue_of n (s, a, b))

-- the cause by which a process that is at this node waits, if it does
abbrev pub node_waits : Endpoints → Option ℕ → NetworkState → Variables → Sessions → CodeNode → Option Why
node_waits e cap n vars m (Join c r k next) = absent_on e n.machines c r (channel_of e.channels c)
node_waits e cap n vars m (Send k b x next) = waits_to_send cap n b (fin.get m k.0)
node_waits e cap n vars m (Pick k b l next) = waits_to_send cap n b (fin.get m k.0)
node_waits e cap n vars m (Throw k b h next) = waits_to_send cap n b (fin.get m k.0)
node_waits e cap n vars m (Recv k a x next) = waits_to_receive n a (fin.get m k.0) (takes_value next vars m x)
node_waits e cap n vars m (Branch k a arms) = waits_to_receive n a (fin.get m k.0) (takes_label arms vars m)
node_waits e cap n vars m (Catch k a h next) = waits_to_receive n a (fin.get m k.0) (takes_part next vars m h)
node_waits e cap n vars m _ = None

-- the cause by which a process that is at this place waits, if it does
abbrev pub place_waits : Endpoints → Option ℕ → NetworkState → Variables → Option Place → Option Why
place_waits e cap n vars None = None
place_waits e cap n vars (Some q) = node_waits e cap n vars q.sessions q.node

-- The cause by which a process waits, if it does
abbrev pub waits_for : Endpoints → Option ℕ → NetworkState → Machine → Option Why
waits_for e cap n m = place_waits e cap n m.vars (place_of e m)

-- a process can step where it has neither ended nor a cause to wait
abbrev pub can_step : Endpoints → Option ℕ → NetworkState → Machine → Bool
can_step e cap n m = if has_ended e m then false else (if is_some (waits_for e cap n m) then false else true)

-- no process can step
abbrev pub none_can_step : Endpoints → Option ℕ → NetworkState → List Machine → Bool
none_can_step e cap n [] = true
none_can_step e cap n (m ∷ ms) = if can_step e cap n m then false else none_can_step e cap n ms
