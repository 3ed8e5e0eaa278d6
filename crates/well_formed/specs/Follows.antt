-- When the code of one process follows a choreography: it does what the choreography has the process do, and may offer
-- labels that are never selected. Equal up to pruning means that it follows with any fuel
-- (after Carbone and Montesi, POPL 2013; with fuel for the bodies of calls, this project's own).
use Rattle.std.specs.Prelude.{ℕ, zero, suc, ◌≡◌, ◌==◌, Bool, true, false, List, [], ◌∷◌, Option, Some, None, if◌then◌else◌}
use Rattle.chor_base.specs.declared.names.NameId.{NameId}
use Rattle.chor_base.specs.declared.expr.Expr.{Expr}
use Rattle.chor_base.specs.Expr.{Term, term_of}
use Rattle.chor_semantics.specs.Choreography.{Ref, Live, Named, ref_eq, among, Content, OfValue, OfLabel, OfPart, Message, ValueSent, LabelSent, PartSent, Own, Sets, Shows, Asks, Node, Starts, Communicates, InTransit, Alone, Choreography, Then, Either, Calls, Ends}
use Rattle.chor_semantics.specs.Sources.{Procedure}
use Rattle.chor_semantics.specs.Steps.{procedure_named, body_of}
use Rattle.endpoint_code.specs.declared.code.CodeId.{CodeId}
use Rattle.endpoint_code.specs.declared.code.CodeNode.{CodeNode}
use Rattle.endpoint_code.specs.declared.code.CodeNode.TheVariants.{Join, Send, Recv, Pick, Branch, Throw, Catch, Set, Show, Host, If, Call, End}
use Rattle.endpoint_code.specs.declared.endpoints.Procedure.{Procedure as ProcedureCode}
use Rattle.endpoint_code.specs.declared.endpoints.Endpoints.{Endpoints}
use Rattle.endpoint_code.specs.Network.{procedure_of, arm_at, node_at}

-- ---- what a node has one process do

-- what is received: a value into a variable, a label, or a role of a session
pub data Received : Type 0 where
  Into : (x : NameId) → Received
  Label : (l : NameId) → Received
  Part : (session : Ref) (role : NameId) → Received

-- it joins a session, sends, receives, or acts alone
pub data Act : Type 0 where
  Joins : (channel role : NameId) (session : Ref) → Act
  Puts : (session : Ref) (from to : NameId) (content : Content) → Act
  Gets : (session : Ref) (from to : NameId) (received : Received) → Act
  Does : (own : Own) → Act

abbrev pub received_of : Content → Received
received_of (OfValue e x) = Into x
received_of (OfLabel l) = Label l
received_of (OfPart s r) = Part s r

abbrev pub message_received : Message → Received
message_received (ValueSent v x) = Into x
message_received (LabelSent l) = Label l
message_received (PartSent s r) = Part (Live s) r

abbrev pub role_in : Ref → List (Ref × NameId) → Option NameId
role_in p [] = None
role_in p (q ∷ qs) = if ref_eq p q.0 then Some q.1 else role_in p qs

abbrev pub joins : NameId → Ref → Option NameId → Option Act
joins c s None = None
joins c s (Some r) = Some (Joins c r s)

-- what process p does at a node, if the node names it
abbrev pub act_of : Node → Ref → Option Act
act_of (Starts c d k active serve) p = joins c (Named k d) (role_in p active)
act_of (Communicates s q a r b w) p = if ref_eq p q then Some (Puts s a b w) else (if ref_eq p r then Some (Gets s a b (received_of w)) else None)
act_of (InTransit s a b w q) p = if ref_eq p q then Some (Gets (Live s) a b (message_received w)) else None
act_of (Alone q own) p = if ref_eq p q then Some (Does own) else None

-- ---- what session names of the code stand for

-- a session, and the role that the process holds there
abbrev pub SessionMap : Type 0
SessionMap = ℕ → Option (Ref × NameId)

abbrev pub no_sessions : SessionMap
no_sessions = λ y. None

abbrev pub with_session : SessionMap → NameId → Ref × NameId → SessionMap
with_session m k v = λ y. if k.0 == y then Some v else m y

abbrev pub without_session : SessionMap → NameId → SessionMap
without_session m k = λ y. if k.0 == y then None else m y

abbrev pub StandsFor : SessionMap → NameId → Ref → NameId → Type 0
StandsFor m k s r = m k.0 ≡ Some (s, r)

abbrev pub passed_one : Option (Ref × NameId) → NameId → SessionMap → SessionMap
passed_one None k rest = rest
passed_one (Some v) k rest = with_session rest k v

-- the passed sessions under the procedure's names, and no others
abbrev pub passed : List NameId → List NameId → SessionMap → SessionMap
passed [] ss m = no_sessions
passed (k ∷ ks) [] m = no_sessions
passed (k ∷ ks) (s ∷ ss) m = passed_one (m s.0) k (passed ks ss m)

-- ---- the code does the same

-- the code's head does this: the same expression, variable, session, roles and label
abbrev pub Agrees : SessionMap → CodeNode → Act → Type 0
Agrees m (Join c r k next) (Joins d t s) = (c ≡ d) × (r ≡ t)
Agrees m (Send k b e next) (Puts s a c (OfValue g x)) = StandsFor m k s a × (b ≡ c) × (term_of e ≡ g)
Agrees m (Pick k b l next) (Puts s a c (OfLabel h)) = StandsFor m k s a × (b ≡ c) × (l ≡ h)
Agrees m (Throw k b h next) (Puts s a c (OfPart t r)) = StandsFor m k s a × (b ≡ c) × StandsFor m h t r
Agrees m (Recv k a x next) (Gets s c b (Into y)) = StandsFor m k s b × (a ≡ c) × (x ≡ y)
Agrees m (Branch k a arms) (Gets s c b (Label l)) = StandsFor m k s b × (a ≡ c)
Agrees m (Catch k a h next) (Gets s c b (Part t r)) = StandsFor m k s b × (a ≡ c)
Agrees m (Set x e next) (Does (Sets y g)) = (x ≡ y) × (term_of e ≡ g)
Agrees m (Show e next) (Does (Shows g)) = term_of e ≡ g
Agrees m (Host x f a b next) (Does (Asks y g c d)) = (x ≡ y) × (f ≡ g) × (term_of a ≡ c) × (term_of b ≡ d)
Agrees m _ _ = ⊥

-- a fact of a place in the code, and of the session names there
abbrev pub At : Type 1
At = CodeId → SessionMap → Type 0

-- where the code goes on, if it does
pub data Place : Type 0 where
  Nowhere : Place
  Here : (q : CodeId) (m : SessionMap) → Place

abbrev pub HoldsAt : At → Place → Type 0
HoldsAt K Nowhere = ⊥
HoldsAt K (Here q m) = K q m

abbrev pub arm_place : SessionMap → Option CodeId → Place
arm_place m None = Nowhere
arm_place m (Some next) = Here next m

-- where the code goes on after this: a join and a gain bind a session, a give ends one, and a label takes its arm
abbrev pub place_after : SessionMap → CodeNode → Act → Place
place_after m (Join c r k next) (Joins d t s) = Here next (with_session m k (s, r))
place_after m (Throw k b h next) a = Here next (without_session m h)
place_after m (Catch k a h next) (Gets s c b (Part t r)) = Here next (with_session m h (t, r))
place_after m (Branch k a arms) (Gets s c b (Label l)) = arm_place m (arm_at arms l)
place_after m (Send k b e next) a = Here next m
place_after m (Pick k b l next) a = Here next m
place_after m (Recv k a x next) c = Here next m
place_after m (Set x e next) a = Here next m
place_after m (Show e next) a = Here next m
place_after m (Host x f a b next) c = Here next m
place_after m _ _ = Nowhere

-- a conditional's expression and branches
pub data Fork : Type 0 where
  NoFork : Fork
  Forks : (x : Expr) (f g : CodeId) → Fork

abbrev pub fork_of : CodeNode → Fork
fork_of (If x f g) = Forks x f g
fork_of _ = NoFork

abbrev pub BothHold : At → At → SessionMap → Term → Fork → Type 0
BothHold K L m x NoFork = ⊥
BothHold K L m x (Forks y f g) = (term_of y ≡ x) × K f m × L g m

-- ---- calls

-- what stands at a place of the code: nothing, a call by its body, or another node
pub data Standing : Type 0 where
  Nothing : Standing
  Body : (q : CodeId) (m : SessionMap) → Standing
  Stands : (c : CodeNode) → Standing

abbrev pub body_standing : Option ProcedureCode → List NameId → SessionMap → Standing
body_standing None ss m = Nothing
body_standing (Some q) ss m = Body q.body (passed q.sessions ss m)

abbrev pub standing : Endpoints → Option CodeNode → SessionMap → Standing
standing e None m = Nothing
standing e (Some (Call f p ss)) m = body_standing (procedure_of e.procedures f p) ss m
standing e (Some c) m = Stands c

-- at a call R of its body, with one fuel less; at any other node this fact of it
abbrev pub HoldsOf : At → (CodeNode → Type 0) → Standing → Type 0
HoldsOf R P Nothing = ⊥
HoldsOf R P (Body q m) = R q m
HoldsOf R P (Stands c) = P c

abbrev pub through_call : Endpoints → At → CodeId → SessionMap → (CodeNode → Type 0) → Type 0
through_call e R q m P = HoldsOf R P (standing e (node_at e q) m)

-- ---- following

-- the code does what p does at a node, and then K holds; a node that doesn't name p is skipped
abbrev pub follows_act : Endpoints → Option Act → At → At → At
follows_act e None R K q m = K q m
follows_act e (Some a) R K q m = through_call e R q m (λ c. Agrees m c a × HoldsAt K (place_after m c a))

-- p's own conditional is the code's; at another's the code follows both branches
abbrev pub follows_test : Endpoints → Bool → Term → At → At → At → At
follows_test e false x R K L q m = K q m × L q m
follows_test e true x R K L q m = through_call e R q m (λ c. BothHold K L m x (fork_of c))

abbrev pub follows_end : Endpoints → At → At
follows_end e R q m = through_call e R q m (λ c. c ≡ End)

-- a call that passes p is its body, with one fuel less; one that doesn't is read as the end
abbrev pub follows_call : Endpoints → Bool → Option Choreography → (Choreography → At) → At
follows_call e false o R q m = follows_end e (R Ends) q m
follows_call e true None R q m = ⊥
follows_call e true (Some c) R q m = R c q m

-- with one fuel more than R has
abbrev pub follows_over : Endpoints → List Procedure → Ref → (Choreography → At) → Choreography → At
follows_over e procs p R (Then n rest) = follows_act e (act_of n p) (R (Then n rest)) (follows_over e procs p R rest)
follows_over e procs p R (Either r x c d) = follows_test e (ref_eq p r) x (R (Either r x c d)) (follows_over e procs p R c) (follows_over e procs p R d)
follows_over e procs p R (Calls f k ps ss) = follows_call e (among p ps) (body_of (procedure_named procs f) k ps ss) R
follows_over e procs p R Ends = follows_end e (R Ends)

-- With fuel n, the code at q, whose session names stand for what m says, follows the choreography at process p
abbrev pub Follows : Endpoints → List Procedure → ℕ → Ref → Choreography → CodeId → SessionMap → Type 0
Follows e procs zero p = λ c q m. Unit {0}
Follows e procs (suc n) p = follows_over e procs p (Follows e procs n p)

-- The code and the choreography at process p are equal up to pruning
abbrev pub IsEqualUpToPruning : Endpoints → List Procedure → Ref → Choreography → CodeId → SessionMap → Type 0
IsEqualUpToPruning e procs p c q m = (n : ℕ) → Follows e procs n p c q m
