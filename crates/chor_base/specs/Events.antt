-- Lists of events: who acts, what is sent and received, and in which order.
use Rattle.std.specs.Prelude.{ℕ, ◌+◌, ◌≤◌, ◌≡◌, ◌==◌, ◌&&◌, Bool, List, [], ◌∷◌, ◌++◌, map, length, if◌then◌else◌}
use Rattle.chor_base.specs.declared.names.NameId.{NameId}
use Rattle.chor_base.specs.declared.value.Load.{Load}
use Rattle.chor_base.specs.declared.event.Event.{Event}
use Rattle.chor_base.specs.declared.event.Event.TheVariants.{Start, Send, Recv, Test, Set, Show, Host}

-- a session, a sender's role in it and a receiver's role
abbrev pub Triple : Type 0
Triple = ℕ × NameId × NameId

-- two triples are the same
abbrev pub triple_eq : Triple → Triple → Bool
triple_eq s t = (s.0 == t.0) && ((s.1.0 == t.1.0) && (s.2.0 == t.2.0))

-- the processes that make an event: those that have a part in a start, else the one that acts
abbrev pub actors_of : Event → List ℕ
actors_of (Start c s parts) = map (λ q. q.1) parts
actors_of (Send p s a b l) = p ∷ []
actors_of (Recv p s a b l) = p ∷ []
actors_of (Test p b) = p ∷ []
actors_of (Set p x v) = p ∷ []
actors_of (Show p v) = p ∷ []
actors_of (Host p x f a b v) = p ∷ []

-- the load, where the triples are the same
abbrev pub load_on : Triple → Triple → Load → List Load
load_on t u l = if triple_eq t u then l ∷ [] else []

-- the load that an event sends on a triple, if it does
abbrev pub sent_by : Triple → Event → List Load
sent_by t (Send p s a b l) = load_on t (s, a, b) l
sent_by t _ = []

-- the load that an event receives on a triple, if it does
abbrev pub received_by : Triple → Event → List Load
received_by t (Recv p s a b l) = load_on t (s, a, b) l
received_by t _ = []

-- the loads that are sent on a triple, in order
abbrev pub sent_on : Triple → List Event → List Load
sent_on t [] = []
sent_on t (e ∷ es) = sent_by t e ++ sent_on t es

-- the loads that are received on a triple, in order
abbrev pub received_on : Triple → List Event → List Load
received_on t [] = []
received_on t (e ∷ es) = received_by t e ++ received_on t es

-- First in, first out: on each triple the loads received are a front of the loads sent
abbrev pub IsFifo : List Event → Type 0
IsFifo h = (t : Triple) → (waiting : List Load) × (sent_on t h ≡ received_on t h ++ waiting)

-- With a capacity: after each front of the events, no triple has more than so many loads in transit
abbrev pub IsWithin : ℕ → List Event → Type 0
IsWithin c h = (front rest : List Event) → h ≡ front ++ rest → (t : Triple) → length (sent_on t front) ≤ length (received_on t front) + c
