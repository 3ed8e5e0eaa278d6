-- The sessions in which a process holds a role, along a choreography.
use Rattle.std.specs.Prelude.{ℕ, ◌≡◌, ◌==◌, Bool, true, false, List, [], ◌∷◌, map, length, Option, Some, None, if◌then◌else◌}
use Rattle.chor_base.specs.declared.names.NameId.{NameId}
use Rattle.chor_tree.specs.declared.file.Proc.{Proc}
use Rattle.chor_tree.specs.declared.file.SessionParam.{SessionParam}
use Rattle.chor_semantics.specs.Choreography.{Ref, Content, OfValue, OfLabel, OfPart, Starts, Communicates, InTransit, Alone, Choreography, Then, Either, Calls as CallsProcedure, Ends as Stops}
use Rattle.endpoint_code.specs.declared.endpoints.Endpoints.{Endpoints}
use Rattle.endpoint_code.specs.Faults.{is_among, AreDistinct, IsActive}
use Rattle.projection.specs.Codes.{name_of, is_named, role_in, proc_named, param_for, holds}
use Rattle.projection.specs.Projects.{Started, serving}
use Rattle.accepted_files.specs.FreeSessions.{IsFree}

-- the sessions in which a process holds a role, by number
abbrev pub Held : Type 0
Held = ℕ → Bool

-- with session k among them, or not
abbrev pub with_held : Held → ℕ → Bool → Held
with_held g k b = λ y. if y == k then b else g y

-- it holds a role in what it hands over
abbrev pub GivesHeld : Held → Content → Type 0
GivesHeld g (OfValue e x) = Unit {0}
GivesHeld g (OfLabel l) = Unit {0}
GivesHeld g (OfPart h r) = g (name_of h).0 ≡ true

-- it holds none in what it is handed
abbrev pub GainsNew : Held → Content → Type 0
GainsNew g (OfValue e x) = Unit {0}
GainsNew g (OfLabel l) = Unit {0}
GainsNew g (OfPart h r) = g (name_of h).0 ≡ false

-- after it has sent this, and after it has received this
abbrev pub held_after : Held → Content → Bool → Held
held_after g (OfValue e x) b = g
held_after g (OfLabel l) b = g
held_after g (OfPart h r) b = with_held g (name_of h).0 b

-- at a communication in session s it is the sender, the receiver, or neither, and K holds of its sessions after it
abbrev pub Exchanges : Bool → Bool → Held → Ref → Content → (Held → Type 0) → Type 0
Exchanges true c g s w K = (g (name_of s).0 ≡ true) × GivesHeld g w × K (held_after g w false)
Exchanges false true g s w K = (g (name_of s).0 ≡ true) × GainsNew g w × K (held_after g w true)
Exchanges false false g s w K = K g

-- at a start of channel c it joins in no role, or in an active role in a session in which it holds none
abbrev pub JoinsNew : Endpoints → NameId → ℕ → Held → Option NameId → (Held → Type 0) → Type 0
JoinsNew e c k g None K = K g
JoinsNew e c k g (Some a) K = IsActive e c a × (g k ≡ false) × K (with_held g k true)

-- it holds a role in each session that is passed for one that lists p
abbrev pub HoldsListed : Held → NameId → List SessionParam → List Ref → Type 0
HoldsListed g p (k ∷ ks) (s ∷ ss) = (holds p k.holders ≡ true → g (name_of s).0 ≡ true) × HoldsListed g p ks ss
HoldsListed g p [] ss = Unit {0}
HoldsListed g p (k ∷ ks) [] = Unit {0}

-- a call that passes it for p
pub record PassesHeld (g : Held) (h : Proc) (ss : List Ref) (p : NameId) : Type 0 where
  pub count : length ss ≡ length h.sessions
  pub listed : HoldsListed g p h.sessions ss
  pub apart : AreDistinct (map name_of ss)

-- a call that passes it for a parameter, or doesn't pass it
abbrev pub PassesFor : Held → Proc → List Ref → Option NameId → Type 0
PassesFor g h ss None = Unit {0}
PassesFor g h ss (Some p) = PassesHeld g h ss p

-- at a call of a procedure
abbrev pub PassesAtCall : NameId → List Ref → List Ref → Held → Option Proc → Type 0
PassesAtCall r ps ss g None = Unit {0}
PassesAtCall r ps ss g (Some h) = PassesFor g h ss (param_for r h.params ps)

-- along the choreography process r names sessions in which it holds a role, and takes a role where it holds none
abbrev pub UsesHeld : Endpoints → List Proc → NameId → Choreography → Held → Type 0
UsesHeld e fs r (Then (Starts c d k act srv) rest) = λ g. JoinsNew e c k g (role_in r act) (UsesHeld e fs r rest)
UsesHeld e fs r (Then (Communicates s p a q b w) rest) = λ g. Exchanges (is_named r p) (is_named r q) g s w (UsesHeld e fs r rest)
UsesHeld e fs r (Then (InTransit s a b m q) rest) = λ g. UsesHeld e fs r rest g
UsesHeld e fs r (Then (Alone p o) rest) = λ g. UsesHeld e fs r rest g
UsesHeld e fs r (Either p x c d) = λ g. UsesHeld e fs r c g × UsesHeld e fs r d g
UsesHeld e fs r (CallsProcedure f d ps ss) = λ g. PassesAtCall r ps ss g (proc_named fs f)
UsesHeld e fs r Stops = λ g. Unit {0}

-- ---- lists of bound sessions

-- the list has these sessions
abbrev pub Agrees : Held → List NameId → Type 0
Agrees g bs = (y : NameId) → is_among y bs ≡ g y.0

-- ---- starts

-- the one session in which it holds a role
abbrev pub only_in : ℕ → Held
only_in k = λ y. y == k

-- after a start of channel a the new process of each role uses the session of the start, which may have the channel's name
pub record StartUses (e : Endpoints) (fs : List Proc) (a : NameId) (s : Started) : Type 0 where
  pub free : IsFree s.session a s.rest
  pub uses : (r p : NameId) → serving r s.serve ≡ Some p → UsesHeld e fs p s.rest (only_in s.session)
