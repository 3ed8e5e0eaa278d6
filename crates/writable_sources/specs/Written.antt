-- Choreographies whose processes have code that an endpoint file can spell within its limits (this project's own).
use Rattle.std.specs.Prelude.{◌<◌, ◌≤◌, ◌-◌, ℕ, length}
use Rattle.std.specs.List.{AllByRecursion}
use Rattle.chor_base.specs.Expr.{Term}
use Rattle.chor_tree.specs.declared.file.Proc.{Proc}
use Rattle.chor_semantics.specs.Choreography.{Ref, Content, OfValue, OfLabel, OfPart, Own, Sets, Shows, Asks, Node, Starts, Communicates, InTransit, Alone, Choreography, Then, Either, Calls, Ends}
use Rattle.endpoint_code.specs.declared.endpoints.Endpoints.{Endpoints}
use Rattle.endpoint_code.specs.Trees.{CodeTree}
use Rattle.endpoint_laws.specs.Spelled.{IsNamed, IsWritable, IsCodeSpelled}
use Rattle.endpoint_laws.specs.Limits.{IsShort, Fits}
use Rattle.projection.specs.Codes.{name_of}

-- ---- choreographies

-- an expression that can be spelled, in at most 255 tokens
abbrev pub IsShortSource : Endpoints → Term → Type 0
IsShortSource e t = IsWritable e t × IsShort e t

-- a process or a session whose name can be spelled
abbrev pub IsNamedRef : Endpoints → Ref → Type 0
IsNamedRef e r = IsNamed e (name_of r)

abbrev pub IsWritableContent : Endpoints → Content → Type 0
IsWritableContent e (OfValue t x) = IsShortSource e t × IsNamed e x
IsWritableContent e (OfLabel l) = IsNamed e l
IsWritableContent e (OfPart k r) = IsNamedRef e k

abbrev pub IsWritableOwn : Endpoints → Own → Type 0
IsWritableOwn e (Sets x t) = IsNamed e x × IsShortSource e t
IsWritableOwn e (Shows t) = IsShortSource e t
IsWritableOwn e (Asks x f l r) = IsNamed e x × IsNamed e f × IsShortSource e l × IsShortSource e r

-- what a node's processes do can be spelled; no source has a message in transit
abbrev pub IsWritableNode : Endpoints → Node → Type 0
IsWritableNode e (Starts c d k active serve) = IsNamed e c × IsNamed e (record { 0 = k }) × AllByRecursion (λ p. IsNamed e p.1) active
IsWritableNode e (Communicates k p a q b w) = IsNamedRef e k × IsNamed e a × IsNamed e b × IsWritableContent e w
IsWritableNode e (InTransit k a b m q) = Unit {0}
IsWritableNode e (Alone p own) = IsWritableOwn e own

-- each name and expression can be spelled, and no path has more than n nodes
abbrev pub IsWritableIn : Endpoints → ℕ → Choreography → Type 0
IsWritableIn e n (Then node rest) = (0 < n) × IsWritableNode e node × IsWritableIn e (n - 1) rest
IsWritableIn e n (Either p t first second) = (0 < n) × IsShortSource e t × IsWritableIn e (n - 1) first × IsWritableIn e (n - 1) second
IsWritableIn e n (Calls f d ps ks) = (0 < n) × IsNamed e f × AllByRecursion (IsNamedRef e) ks
IsWritableIn e n Ends = 0 < n

-- a procedure whose names can be spelled, with at most eight session parameters
pub record IsWritableHead (e : Endpoints) (h : Proc) : Type 0 where
  pub name : IsNamed e h.name.name
  pub params : AllByRecursion (λ p. IsNamed e p.name.name) h.params
  pub sessions : AllByRecursion (λ k. IsNamed e k.name.name) h.sessions
  pub few : length h.sessions ≤ 8

-- ---- codes

-- each name and expression of the code can be spelled, and it keeps the limits of endpoint files, with at most n nodes on a path
pub record IsWritableCode (e : Endpoints) (n : ℕ) (c : CodeTree) : Type 0 where
  pub spelled : IsCodeSpelled e c
  pub fits : Fits e n c
