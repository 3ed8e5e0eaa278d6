-- That a process holds each role that it plays, judged on the source alone.
use Rattle.std.specs.Prelude.{ℕ, ◌≡◌, ◌==◌, Bool, true, false, List, [], ◌∷◌, map, Option, Some, None, if◌then◌else◌}
use Rattle.chor_base.specs.declared.names.NameId.{NameId}
use Rattle.chor_tree.specs.declared.file.Named.{Named as Written}
use Rattle.chor_tree.specs.declared.file.Proc.{Proc}
use Rattle.chor_tree.specs.declared.file.SessionParam.{SessionParam}
use Rattle.chor_semantics.specs.Choreography.{Ref, Live, Named, Content, OfValue, OfLabel, OfPart, Node, Starts, Communicates, InTransit, Alone, Choreography, Then, Either, Calls, Ends}
use Rattle.projection.specs.Codes.{is_named, role_in, proc_named, param_for, holds}

-- the role that a process holds in each session, by the session's name
abbrev pub Roles : Type 0
Roles = ℕ → Option NameId

-- with another role, or none, in session k
abbrev pub with_role : Roles → ℕ → Option NameId → Roles
with_role g k o = λ y. if k == y then o else g y

-- it holds role a in this session
abbrev pub HoldsRole : Roles → Ref → NameId → Type 0
HoldsRole g (Named k d) a = g k ≡ Some a
HoldsRole g (Live n) a = ⊥

-- a session's number
abbrev pub number : Ref → ℕ
number (Named k d) = k
number (Live n) = n

-- it holds the role that it hands over
abbrev pub GivesAway : Roles → Content → Type 0
GivesAway g (OfValue e x) = Unit {0}
GivesAway g (OfLabel l) = Unit {0}
GivesAway g (OfPart h r) = HoldsRole g h r

-- its roles after it has sent this
abbrev pub roles_sent : Roles → Content → Roles
roles_sent g (OfValue e x) = g
roles_sent g (OfLabel l) = g
roles_sent g (OfPart h r) = with_role g (number h) None

-- its roles after it has received this
abbrev pub roles_gained : Roles → Content → Roles
roles_gained g (OfValue e x) = g
roles_gained g (OfLabel l) = g
roles_gained g (OfPart h r) = with_role g (number h) (Some r)

-- at a communication in session s it is the sender in role a, the receiver in role b, or neither, and K holds of its
-- roles after it
abbrev pub TakesPart : Bool → Bool → Roles → Ref → NameId → NameId → Content → (Roles → Type 0) → Type 0
TakesPart true c g s a b w K = HoldsRole g s a × GivesAway g w × K (roles_sent g w)
TakesPart false true g s a b w K = HoldsRole g s b × K (roles_gained g w)
TakesPart false false g s a b w K = K g

-- ---- procedures

-- a name is in a list
abbrev pub has_name : NameId → List NameId → Bool
has_name p [] = false
has_name p (x ∷ xs) = if p.0 == x.0 then true else has_name p xs

-- the names of a procedure's process parameters
abbrev pub params_of : Proc → List NameId
params_of h = map (λ q. q.name.name) h.params

-- the names of its session parameters
abbrev pub sessions_of : Proc → List NameId
sessions_of h = map (λ s. s.name.name) h.sessions

-- the role for which a session parameter lists p
abbrev pub holder_role : NameId → List (Written × Written) → Option NameId
holder_role p [] = None
holder_role p (h ∷ hs) = if h.1.name.0 == p.0 then Some h.0.name else holder_role p hs

-- the roles that parameter p holds where the body begins
abbrev pub roles_of : NameId → List SessionParam → Roles
roles_of p [] = λ y. None
roles_of p (k ∷ ks) = λ y. if k.name.name.0 == y then holder_role p k.holders else roles_of p ks y

-- in each session that is passed for one that lists p, it holds the role for which p is listed
abbrev pub HoldsPassed : Roles → NameId → List SessionParam → List Ref → Type 0
HoldsPassed g p (k ∷ ks) (s ∷ ss) = (holds p k.holders ≡ true → g (number s) ≡ holder_role p k.holders) × HoldsPassed g p ks ss
HoldsPassed g p [] ss = Unit {0}
HoldsPassed g p (k ∷ ks) [] = Unit {0}

-- where it is passed for p
abbrev pub HoldsPassedFor : List Ref → Roles → Proc → Option NameId → Type 0
HoldsPassedFor ss g h None = Unit {0}
HoldsPassedFor ss g h (Some p) = HoldsPassed g p h.sessions ss

-- at a call of a procedure that passes process r, or doesn't
abbrev pub HoldsAtCall : NameId → List Ref → List Ref → Roles → Option Proc → Type 0
HoldsAtCall r ps ss g None = Unit {0}
HoldsAtCall r ps ss g (Some h) = HoldsPassedFor ss g h (param_for r h.params ps)

-- along the choreography process r holds each role that it plays, and at a call the roles of its parameter
abbrev pub HoldsRoles : List Proc → NameId → Choreography → Roles → Type 0
HoldsRoles fs r (Then (Starts c e k act srv) rest) = λ g. HoldsRoles fs r rest (with_role g k (role_in r act))
HoldsRoles fs r (Then (Communicates s p a q b w) rest) = λ g. TakesPart (is_named r p) (is_named r q) g s a b w (HoldsRoles fs r rest)
HoldsRoles fs r (Then (InTransit s a b m q) rest) = λ g. Unit {0}
HoldsRoles fs r (Then (Alone p o) rest) = λ g. HoldsRoles fs r rest g
HoldsRoles fs r (Either p x c e) = λ g. HoldsRoles fs r c g × HoldsRoles fs r e g
HoldsRoles fs r (Calls f e ps ss) = λ g. HoldsAtCall r ps ss g (proc_named fs f)
HoldsRoles fs r Ends = λ g. Unit {0}

-- ---- services

-- the name of a process, by its number
abbrev pub process_name : ℕ → NameId
process_name n = record { 0 = n }

-- after a start of session k, each of these services holds its role in it, and plays no other role than it holds
abbrev pub EachServiceHolds : List Proc → ℕ → Choreography → List (ℕ × NameId) → Type 0
EachServiceHolds fs k rest [] = Unit {0}
EachServiceHolds fs k rest (s ∷ ss) = HoldsRoles fs (process_name s.0) rest (with_role (λ y. None) k (Some s.1)) × EachServiceHolds fs k rest ss

-- at a node: if it is a start, its services
abbrev pub ServicesHoldAt : List Proc → Node → Choreography → Type 0
ServicesHoldAt fs (Starts c e k act srv) rest = EachServiceHolds fs k rest srv
ServicesHoldAt fs (Communicates s p a q b w) rest = Unit {0}
ServicesHoldAt fs (InTransit s a b m q) rest = Unit {0}
ServicesHoldAt fs (Alone p o) rest = Unit {0}

-- at each start in a choreography
abbrev pub ServicesHold : List Proc → Choreography → Type 0
ServicesHold fs (Then n rest) = ServicesHoldAt fs n rest × ServicesHold fs rest
ServicesHold fs (Either p x c d) = ServicesHold fs c × ServicesHold fs d
ServicesHold fs (Calls h d ps ss) = Unit {0}
ServicesHold fs Ends = Unit {0}
