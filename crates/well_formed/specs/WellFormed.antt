-- Well-formed choreographies: what is named is in scope, what a start binds is new, a start has its channel's roles,
-- nobody sends to itself, and no expression has a literal endpoint.
use Rattle.std.specs.Prelude.{ℕ, ◌<◌, ◌≤◌, ◌≡◌, ◌==◌, ◌||◌, Bool, true, false, List, [], ◌∷◌, length, map, Some}
use Rattle.std.specs.FinMap as fin
use Rattle.chor_base.specs.declared.names.NameId.{NameId}
use Rattle.chor_base.specs.declared.value.Value.{Value}
use Rattle.chor_base.specs.declared.value.Value.TheVariants.{Int, Bool as Truth, Text, Part as Endpoint}
use Rattle.chor_base.specs.NameMap.{Variables}
use Rattle.chor_base.specs.Expr.{Term, Constant, Variable, Unary, Binary}
use Rattle.chor_semantics.specs.Choreography.{Ref, Live, Named, ref_eq, among, Content, OfValue, OfLabel, OfPart, Message, ValueSent, LabelSent, PartSent, Own, Sets, Shows, Asks, Node, Starts, Communicates, InTransit, Alone, Choreography, Then, Either, Calls, Ends}
use Rattle.chor_semantics.specs.Sources.{Procedure}
use Rattle.chor_semantics.specs.Steps.{procedure_named}
use Rattle.endpoint_code.specs.declared.endpoints.Channel.{Channel}
use Rattle.endpoint_code.specs.Network.{channel_of}

-- ---- what is in scope

-- what may be named at a place: the processes and sessions with numbers below the next ones, and the names that
-- starts before it bind
pub record Scope : Type 0 where
  pub pid : ℕ
  pub processes : List Ref
  pub sid : ℕ
  pub sessions : List Ref

-- a number below n, or a name that is bound
abbrev pub IsIn : ℕ → List Ref → Ref → Type 0
IsIn n bs (Live m) = m < n
IsIn n bs (Named x d) = among (Named x d) bs ≡ true

-- each of them
abbrev pub AllIn : ℕ → List Ref → List Ref → Type 0
AllIn n bs [] = Unit {0}
AllIn n bs (r ∷ rs) = IsIn n bs r × AllIn n bs rs

-- a process in scope
abbrev pub IsProcess : Scope → Ref → Type 0
IsProcess sc r = IsIn sc.pid sc.processes r

-- a session in scope
abbrev pub IsSession : Scope → Ref → Type 0
IsSession sc s = IsIn sc.sid sc.sessions s

-- nothing stands twice
abbrev pub AreDistinctRefs : List Ref → Type 0
AreDistinctRefs [] = Unit {0}
AreDistinctRefs (r ∷ rs) = (among r rs ≡ false) × AreDistinctRefs rs

-- the role is in the list
abbrev pub role_among : NameId → List NameId → Bool
role_among r [] = false
role_among r (s ∷ ss) = (r.0 == s.0) || role_among r ss

-- no role stands twice
abbrev pub AreDistinctRoles : List NameId → Type 0
AreDistinctRoles [] = Unit {0}
AreDistinctRoles (r ∷ rs) = (role_among r rs ≡ false) × AreDistinctRoles rs

-- no name is bound deeper than d
abbrev pub AreNoDeeper : ℕ → List Ref → Type 0
AreNoDeeper d [] = Unit {0}
AreNoDeeper d (Live n ∷ rs) = AreNoDeeper d rs
AreNoDeeper d (Named x c ∷ rs) = (c ≤ d) × AreNoDeeper d rs

-- the names of service processes, which a start binds at depth d, are not yet bound, and differ
abbrev pub AllNew : ℕ → List (ℕ × NameId) → List Ref → Type 0
AllNew d [] bs = Unit {0}
AllNew d (s ∷ ss) bs = (among (Named s.0 d) bs ≡ false) × AllNew d ss (Named s.0 d ∷ bs)

-- what is bound after they are
abbrev pub entered : ℕ → List (ℕ × NameId) → List Ref → List Ref
entered d [] bs = bs
entered d (s ∷ ss) bs = entered d ss (Named s.0 d ∷ bs)

-- the active processes of a start
abbrev pub firsts : List (Ref × NameId) → List Ref
firsts active = map (λ p. p.0) active

-- the service processes of a start
abbrev pub service_refs : ℕ → List (ℕ × NameId) → List Ref
service_refs d serve = map (λ s. Named s.0 d) serve

-- the scope after a node: a start binds its service processes and its session
abbrev pub scope_after : Scope → Node → Scope
scope_after sc (Starts c d k active serve) = record { pid = sc.pid; processes = entered d serve sc.processes; sid = sc.sid; sessions = Named k d ∷ sc.sessions }
scope_after sc (Communicates s p a q b w) = sc
scope_after sc (InTransit s a b m q) = sc
scope_after sc (Alone p o) = sc

-- ---- expressions and values without endpoints

-- a value that is no endpoint
abbrev pub IsPlain : Value → Type 0
IsPlain (Int z) = Unit {0}
IsPlain (Truth b) = Unit {0}
IsPlain (Text t) = Unit {0}
IsPlain (Endpoint s r) = ⊥

-- no variable has an endpoint as its value
abbrev pub ArePlain : Variables → Type 0
ArePlain m = (x : ℕ) (v : Value) → fin.get m x ≡ Some v → IsPlain v

-- an expression with no endpoint in it
abbrev pub IsPlainTerm : Term → Type 0
IsPlainTerm (Constant v) = IsPlain v
IsPlainTerm (Variable x) = Unit {0}
IsPlainTerm (Unary op e) = IsPlainTerm e
IsPlainTerm (Binary op e f) = IsPlainTerm e × IsPlainTerm f

-- ---- nodes

-- what is sent is an expression with no endpoint, a label, or a role of a session in scope
abbrev pub ContentFits : Scope → Content → Type 0
ContentFits sc (OfValue e x) = IsPlainTerm e
ContentFits sc (OfLabel l) = Unit {0}
ContentFits sc (OfPart s r) = IsSession sc s

-- so it is with a message in transit
abbrev pub MessageFits : Scope → Message → Type 0
MessageFits sc (ValueSent v x) = IsPlain v
MessageFits sc (LabelSent l) = Unit {0}
MessageFits sc (PartSent s r) = s < sc.sid

-- a statement's expressions have no endpoint
abbrev pub OwnFits : Own → Type 0
OwnFits (Sets x e) = IsPlainTerm e
OwnFits (Shows e) = IsPlainTerm e
OwnFits (Asks x f a b) = IsPlainTerm a × IsPlainTerm b

-- a start has its channel's roles, in order; its active processes are in scope and differ, and what it binds is new
pub record StartFits (ks : List Channel) (sc : Scope) (c : NameId) (d k : ℕ) (active : List (Ref × NameId)) (serve : List (ℕ × NameId)) : Type 0 where
  pub channel : Channel
  pub declared : channel_of ks c ≡ Some channel
  pub active_roles : map (λ p. p.1) active ≡ channel.active
  pub service_roles : map (λ s. s.1) serve ≡ channel.serve
  pub known : AllIn sc.pid sc.processes (firsts active)
  pub apart : AreDistinctRefs (firsts active)
  pub new_processes : AllNew d serve sc.processes
  pub new_session : among (Named k d) sc.sessions ≡ false

-- sender, receiver and session are in scope, and the sender is not the receiver
pub record CommunicationFits (sc : Scope) (s p q : Ref) (w : Content) : Type 0 where
  pub session : IsSession sc s
  pub sender : IsProcess sc p
  pub receiver : IsProcess sc q
  pub differ : ref_eq p q ≡ false
  pub content : ContentFits sc w

-- the session has a number, and the receiver is in scope
pub record TransitFits (sc : Scope) (s : ℕ) (m : Message) (q : Ref) : Type 0 where
  pub session : s < sc.sid
  pub message : MessageFits sc m
  pub receiver : IsProcess sc q

-- a node in its scope
abbrev pub NodeFits : List Channel → Scope → Node → Type 0
NodeFits ks sc (Starts c d k active serve) = StartFits ks sc c d k active serve
NodeFits ks sc (Communicates s p a q b w) = CommunicationFits sc s p q w
NodeFits ks sc (InTransit s a b m q) = TransitFits sc s m q
NodeFits ks sc (Alone p o) = IsProcess sc p × OwnFits o

-- a call passes what is in scope, nothing twice, to a procedure with as many parameters; no name in scope is deeper
pub record CallFits (procs : List Procedure) (sc : Scope) (f : NameId) (d : ℕ) (ps ss : List Ref) : Type 0 where
  pub procedure : Procedure
  pub declared : procedure_named procs f ≡ Some procedure
  pub processes : AllIn sc.pid sc.processes ps
  pub sessions : AllIn sc.sid sc.sessions ss
  pub process_count : length ps ≡ length procedure.params
  pub session_count : length ss ≡ length procedure.sessions
  pub processes_apart : AreDistinctRefs ps
  pub sessions_apart : AreDistinctRefs ss
  pub processes_above : AreNoDeeper d sc.processes
  pub sessions_above : AreNoDeeper d sc.sessions

-- a choreography in a scope is well formed: each node and each conditional is, in the scope that it has there
abbrev pub IsWellFormed : List Channel → List Procedure → Scope → Choreography → Type 0
IsWellFormed ks procs sc (Then n rest) = NodeFits ks sc n × IsWellFormed ks procs (scope_after sc n) rest
IsWellFormed ks procs sc (Either p e c d) = (IsProcess sc p × IsPlainTerm e) × IsWellFormed ks procs sc c × IsWellFormed ks procs sc d
IsWellFormed ks procs sc (Calls f d ps ss) = CallFits procs sc f d ps ss
IsWellFormed ks procs sc Ends = Unit {0}

-- ---- sources

-- names of a source, which have no depth yet
abbrev pub names_in_scope : List NameId → List Ref
names_in_scope xs = map (λ x. Named x.0 0) xs

-- the scope of a procedure's body, or of main's, whose processes these are: nothing is live there
abbrev pub declared_scope : List NameId → List NameId → Scope
declared_scope ps ss = record { pid = 0; processes = names_in_scope ps; sid = 0; sessions = names_in_scope ss }

-- no parameter stands twice, and the body is well formed in the scope of the parameters
pub record ProcedureFits (ks : List Channel) (procs : List Procedure) (p : Procedure) : Type 0 where
  pub params : AreDistinctRefs (names_in_scope p.params)
  pub sessions : AreDistinctRefs (names_in_scope p.sessions)
  pub body : IsWellFormed ks procs (declared_scope p.params p.sessions) p.body

-- each procedure
abbrev pub AllFit : List Channel → List Procedure → Type 0
AllFit ks procs = (f : NameId) (p : Procedure) → procedure_named procs f ≡ Some p → ProcedureFits ks procs p
