-- What a process sends and takes, and what it does by itself.
use Rattle.std.specs.Prelude.{ℕ, ℤ, pos, ◌&&◌, Bool, true, false, Option, Some, None, is_some, if◌then◌else◌}
use Rattle.std.specs.FinMap as fin
use Rattle.chor_base.specs.declared.value.Value.TheVariants.{Int}
use Rattle.chor_base.specs.declared.value.Load.{Load}
use Rattle.chor_base.specs.declared.value.Load.TheVariants.{Value as Carries, Label as Picks}
use Rattle.chor_base.specs.declared.event.Event.{Event}
use Rattle.chor_base.specs.declared.event.Event.TheVariants as event
use Rattle.chor_base.specs.Expr.{term_of, value_of, number_of, truth_of}
use Rattle.chor_base.specs.Meaning.{Hosts, meaning_named, MayAnswer}
use Rattle.chor_base.specs.NameMap.{Variables}
use Rattle.endpoint_code.specs.declared.code.CodeNode.{CodeNode}
use Rattle.endpoint_code.specs.declared.code.CodeNode.TheVariants.{Join, Send, Recv, Pick, Branch, Throw, Catch, Set, Show, Host, If, Call}
use Rattle.endpoint_code.specs.declared.endpoints.Endpoints.{Endpoints}
use Rattle.endpoint_code.specs.Network.{Machine, Sessions, Place, Taking, place_of, part_load, takes_value, takes_label, takes_part}

-- ---- sending

abbrev pub node_load : Variables → Sessions → CodeNode → Option Load
node_load vars m (Send k b e next) = Some (Carries (value_of (term_of e) vars))
node_load vars m (Pick k b l next) = Some (Picks l)
node_load vars m (Throw k b h next) = part_load (fin.get m h.0)
node_load vars m _ = None

abbrev pub place_load : Variables → Option Place → Option Load
place_load vars None = None
place_load vars (Some q) = node_load vars q.sessions q.node

-- The load that a process sends next
abbrev pub load_of : Endpoints → Machine → Option Load
load_of e m = place_load m.vars (place_of e m)

-- a process that has sent at a node
abbrev pub node_sent : Variables → Sessions → CodeNode → Option Machine
node_sent vars m (Send k b e next) = Some (record { at = next; vars = vars; sessions = m })
node_sent vars m (Pick k b l next) = Some (record { at = next; vars = vars; sessions = m })
node_sent vars m (Throw k b h next) = Some (record { at = next; vars = vars; sessions = fin.remove m h.0 })
node_sent vars m _ = None

-- ---- taking

abbrev pub node_takes : Variables → Sessions → CodeNode → Load → Option Taking
node_takes vars m (Recv k a x next) l = takes_value next vars m x l
node_takes vars m (Branch k a arms) l = takes_label arms vars m l
node_takes vars m (Catch k a h next) l = takes_part next vars m h l
node_takes vars m _ l = None

abbrev pub place_takes : Variables → Option Place → Load → Option Taking
place_takes vars None l = None
place_takes vars (Some q) l = node_takes vars q.sessions q.node l

-- Where a process goes on that takes this load, if it takes it
abbrev pub taking_of : Endpoints → Machine → Load → Option Taking
taking_of e m l = place_takes m.vars (place_of e m) l

-- ---- at a node

-- the sessions that the node names are bound
abbrev pub knows_sessions : Sessions → CodeNode → Bool
knows_sessions m (Send k b e next) = is_some (fin.get m k.0)
knows_sessions m (Recv k a x next) = is_some (fin.get m k.0)
knows_sessions m (Pick k b l next) = is_some (fin.get m k.0)
knows_sessions m (Branch k a arms) = is_some (fin.get m k.0)
knows_sessions m (Throw k b h next) = is_some (fin.get m k.0) && is_some (fin.get m h.0)
knows_sessions m (Catch k a h next) = is_some (fin.get m k.0)
knows_sessions m _ = true

abbrev pub is_call : CodeNode → Bool
is_call (Call f p ss) = true
is_call _ = false

abbrev pub sends : CodeNode → Bool
sends (Send k b e next) = true
sends (Pick k b l next) = true
sends (Throw k b h next) = true
sends _ = false

abbrev pub joins : CodeNode → Bool
joins (Join c r k next) = true
joins _ = false

-- ---- acting alone

-- a node at which a process acts by itself
abbrev pub acts_alone : CodeNode → Bool
acts_alone (Set x e next) = true
acts_alone (Show e next) = true
acts_alone (Host x f a b next) = true
acts_alone (If e c d) = true
acts_alone _ = false

-- a node at which a process asks a host function
abbrev pub asks_at : CodeNode → Bool
asks_at (Host x f a b next) = true
asks_at _ = false

abbrev pub place_asks : Option Place → Bool
place_asks None = false
place_asks (Some q) = asks_at q.node

-- The process asks a host function next, through at most one call
abbrev pub asks_next : Endpoints → Machine → Bool
asks_next e m = place_asks (place_of e m)

-- v is an answer that a process may get at a node; where it asks no host function, any number is
abbrev pub NodeAnswers : Hosts → Variables → CodeNode → ℤ → Type 0
NodeAnswers hosts vars (Host x f a b next) v = MayAnswer (meaning_named hosts f) (number_of (value_of (term_of a) vars)) (number_of (value_of (term_of b) vars)) v
NodeAnswers hosts vars _ v = Unit {0}

-- the event that process p makes by itself at a node, where v is a host function's answer
abbrev pub node_event : ℕ → ℤ → Variables → CodeNode → Option Event
node_event p v vars (Set x e next) = Some (event.Set p x (value_of (term_of e) vars))
node_event p v vars (Show e next) = Some (event.Show p (value_of (term_of e) vars))
node_event p v vars (Host x f a b next) = Some (event.Host p x f (number_of (value_of (term_of a) vars)) (number_of (value_of (term_of b) vars)) v)
node_event p v vars (If e c d) = Some (event.Test p (truth_of (value_of (term_of e) vars)))
node_event p v vars _ = None

-- a process that has acted by itself at a node
abbrev pub node_acted : ℤ → Variables → Sessions → CodeNode → Option Machine
node_acted v vars m (Set x e next) = Some (record { at = next; vars = fin.insert vars x.0 (value_of (term_of e) vars); sessions = m })
node_acted v vars m (Show e next) = Some (record { at = next; vars = vars; sessions = m })
node_acted v vars m (Host x f a b next) = Some (record { at = next; vars = fin.insert vars x.0 (Int v); sessions = m })
node_acted v vars m (If e c d) = Some (record { at = if truth_of (value_of (term_of e) vars) then c else d; vars = vars; sessions = m })
node_acted v vars m _ = None

-- an event that a process makes by itself
abbrev pub is_alone : Event → Bool
is_alone (event.Test p b) = true
is_alone (event.Set p x v) = true
is_alone (event.Show p v) = true
is_alone (event.Host p x f a b v) = true
is_alone _ = false

abbrev pub is_call_event : Event → Bool
is_call_event (event.Host p x f a b v) = true
is_call_event _ = false

-- the answer that an event tells; where it is no host call, any number serves
abbrev pub answer_in : Event → ℤ
answer_in (event.Host p x f a b v) = v
answer_in _ = pos 0
