-- States and events of a network that are the same up to the numbers of names, texts and nodes (this project's own).
use Rattle.std.specs.Prelude.{ℕ, ℤ, ◌≡◌, ◌<◌, Bool, List, length}
use Rattle.std.specs.List.{AllZip}
use Rattle.std.specs.FinMap as fin
use Rattle.chor_base.specs.declared.names.NameId.{NameId}
use Rattle.chor_base.specs.declared.value.Value.{Value}
use Rattle.chor_base.specs.declared.value.Load.{Load}
use Rattle.chor_base.specs.declared.value.Load.TheVariants.{Value as Carries, Label as Picks}
use Rattle.chor_base.specs.declared.event.Event.{Event}
use Rattle.chor_base.specs.declared.event.Event.TheVariants.{Start, Send, Recv, Test, Set, Show, Host}
use Rattle.chor_base.specs.declared.event.Why.{Why}
use Rattle.chor_base.specs.declared.event.Why.TheVariants.{Empty, Wrong, Full, Absent}
use Rattle.chor_base.specs.NameMap.{Variables}
use Rattle.endpoint_code.specs.declared.endpoints.Endpoints.{Endpoints}
use Rattle.endpoint_code.specs.Labels.{HasDistinctLabels}
use Rattle.endpoint_code.specs.Network.{Sessions, Machine, NetworkState, queue_of}
use Rattle.endpoint_code.specs.Scheduled.{Close, Ended, Limit, Stuck}
use Rattle.endpoint_code.specs.Trees.{code_at}
use Rattle.same_programs.specs.Words.{SameName, SameText, BothOrNeither}
use Rattle.same_programs.specs.Codes.{SameValue}
use Rattle.same_programs.specs.Programs.{SameCodeAt}

-- ---- events

-- the same value, or the same label
pub data SameLoad (N : NameId → NameId → Type 0) (T : ℕ → ℕ → Type 0) : Load → Load → Type 0 where
  carries : {v w : Value} → SameValue N T v w → SameLoad N T (Carries v) (Carries w)
  picks : {l m : NameId} → N l m → SameLoad N T (Picks l) (Picks m)

-- the same role, taken by the same process
abbrev pub SamePart : (NameId → NameId → Type 0) → NameId × ℕ → NameId × ℕ → Type 0
SamePart N q p = N q.0 p.0 × (q.1 ≡ p.1)

-- the same deed of the same processes in the same session, with the same names and values
pub data SameEvent (N : NameId → NameId → Type 0) (T : ℕ → ℕ → Type 0) : Event → Event → Type 0 where
  start : {c d : NameId} {s : ℕ} {ps qs : List (NameId × ℕ)} → N c d → AllZip (SamePart N) ps qs → SameEvent N T (Start c s ps) (Start d s qs)
  send : {p s : ℕ} {a b c d : NameId} {l m : Load} → N a c → N b d → SameLoad N T l m → SameEvent N T (Send p s a b l) (Send p s c d m)
  recv : {p s : ℕ} {a b c d : NameId} {l m : Load} → N a c → N b d → SameLoad N T l m → SameEvent N T (Recv p s a b l) (Recv p s c d m)
  test : {p : ℕ} {b : Bool} → SameEvent N T (Test p b) (Test p b)
  set : {p : ℕ} {x y : NameId} {v w : Value} → N x y → SameValue N T v w → SameEvent N T (Set p x v) (Set p y w)
  show : {p : ℕ} {v w : Value} → SameValue N T v w → SameEvent N T (Show p v) (Show p w)
  host : {p : ℕ} {x y f g : NameId} {a b v : ℤ} → N x y → N f g → SameEvent N T (Host p x f a b v) (Host p y g a b v)

-- the same cause of waiting
pub data SameWhy (N : NameId → NameId → Type 0) : Why → Why → Type 0 where
  empty : {s : ℕ} {a b c d : NameId} → N a c → N b d → SameWhy N (Empty s a b) (Empty s c d)
  wrong : {s : ℕ} {a b c d : NameId} → N a c → N b d → SameWhy N (Wrong s a b) (Wrong s c d)
  full : {s : ℕ} {a b c d : NameId} → N a c → N b d → SameWhy N (Full s a b) (Full s c d)
  absent : {c d r q : NameId} → N c d → N r q → SameWhy N (Absent c r) (Absent d q)

-- a run is closed in the same way
pub data SameClose (N : NameId → NameId → Type 0) : Close → Close → Type 0 where
  ended : SameClose N Ended Ended
  limit : SameClose N Limit Limit
  stuck : {p : ℕ} {why because : Why} → SameWhy N why because → SameClose N (Stuck p why) (Stuck p because)

-- ---- states of the network of e and of that of e'

-- a variable of the same name is set to the same value in both, or in neither
abbrev pub SameVariables : Endpoints → Endpoints → Variables → Variables → Type 0
SameVariables e e' vars vars' =
    (x y : NameId) → SameName e e' x y → BothOrNeither (SameValue (SameName e e') (SameText e e')) (fin.get vars x.0) (fin.get vars' y.0)

-- a session of the same name is the same session, held in the same role
abbrev pub SameSessions : Endpoints → Endpoints → Sessions → Sessions → Type 0
SameSessions e e' m m' =
    (x y : NameId) → SameName e e' x y → BothOrNeither (λ (b c : ℕ × NameId). (b.0 ≡ c.0) × SameName e e' b.1 c.1) (fin.get m x.0) (fin.get m' y.0)

-- the process stands in its table before the same code, which has no label twice in a branch, with the same variables and sessions
pub record SameMachine (e e' : Endpoints) (m m' : Machine) : Type 0 where
  pub inside : m.at.0 < length e.code.nodes
  pub copied_inside : m'.at.0 < length e'.code.nodes
  pub code : SameCodeAt e e' m.at m'.at
  pub distinct : HasDistinctLabels (code_at e.code.nodes m.at)
  pub vars : SameVariables e e' m.vars m'.vars
  pub sessions : SameSessions e e' m.sessions m'.sessions

-- the same processes, the same loads in transit from role to role of each session, and the same next session
pub record SameState (e e' : Endpoints) (n n' : NetworkState) : Type 0 where
  pub machines : AllZip (SameMachine e e') n.machines n'.machines
  pub queues : (s : ℕ) (a b c d : NameId) → SameName e e' a c → SameName e e' b d
      → AllZip (SameLoad (SameName e e') (SameText e e')) (queue_of n (s, a, b)) (queue_of n' (s, c, d))
  pub sid : n.sid ≡ n'.sid
