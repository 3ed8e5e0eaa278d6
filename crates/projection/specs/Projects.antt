-- Endpoint projection: when endpoint programs are the projection of a source file.
use Rattle.std.specs.Prelude.{ℕ, ◌≡◌, ◌==◌, Bool, true, false, List, [], ◌∷◌, ◌++◌, map, Option, Some, None, if◌then◌else◌}
use Rattle.std.specs.List.{AllZip, filter}
use Rattle.chor_base.specs.declared.names.NameId.{NameId}
use Rattle.chor_tree.specs.declared.file.File.{File}
use Rattle.chor_tree.specs.declared.file.Named.{Named as Written}
use Rattle.chor_tree.specs.declared.file.Service.{Service}
use Rattle.chor_tree.specs.declared.file.Proc.{Proc}
use Rattle.chor_tree.specs.declared.file.ProcParam.{ProcParam}
use Rattle.chor_tree.specs.declared.tree.NodeId.{NodeId}
use Rattle.chor_semantics.specs.Choreography.{Ref, Live, Named, Node, Starts, Choreography, Then, Either, Calls, Ends, put}
use Rattle.chor_semantics.specs.Sources.{tree_in, trees_of}
use Rattle.endpoint_code.specs.declared.endpoints.Channel.{Channel}
use Rattle.endpoint_code.specs.declared.endpoints.Procedure.{Procedure}
use Rattle.endpoint_code.specs.declared.endpoints.ServiceCode.{ServiceCode}
use Rattle.endpoint_code.specs.declared.endpoints.Process.{Process}
use Rattle.endpoint_code.specs.declared.endpoints.Endpoints.{Endpoints}
use Rattle.endpoint_code.specs.Trees.{CodeTree, code_at}
use Rattle.endpoint_code.specs.LeastAbove.{IsLeastAbove}
use Rattle.projection.specs.Codes.{sessions_for, IsCodeOf}

-- ---- the starts of a channel

-- a start: its session, its new processes with their roles, and what follows it
pub record Started : Type 0 where
  pub session : ℕ
  pub serve : List (ℕ × NameId)
  pub rest : Choreography

-- the start at a node, if it is one of this channel
abbrev pub start_at : NameId → Node → Choreography → List Started
start_at a (Starts c d k active serve) rest = if c.0 == a.0 then record { session = k; serve = serve; rest = rest } ∷ [] else []
start_at a _ rest = []

-- the starts of channel a in a choreography
abbrev pub starts_in : NameId → Choreography → List Started
starts_in a (Then n rest) = start_at a n rest ++ starts_in a rest
starts_in a (Either p e first second) = starts_in a first ++ starts_in a second
starts_in a (Calls f d ps ss) = []
starts_in a Ends = []

-- the choreography of a body
abbrev pub body_at : File → NodeId → Choreography
body_at f id = tree_in (trees_of f.tree.nodes) id

-- the starts of a channel in the bodies of procedures
abbrev pub starts_in_procs : File → NameId → List Proc → List Started
starts_in_procs f a [] = []
starts_in_procs f a (h ∷ hs) = starts_in a (body_at f h.body) ++ starts_in_procs f a hs

-- the starts of channel a in the file: in all procedures, called or not, and in main
abbrev pub starts_of : File → NameId → List Started
starts_of f a = starts_in_procs f a f.procs ++ starts_in a (body_at f f.body)

-- ---- services

-- the new process of a role
abbrev pub serving : NameId → List (ℕ × NameId) → Option NameId
serving r [] = None
serving r (s ∷ ss) = if s.1.0 == r.0 then Some (record { 0 = s.0 }) else serving r ss

-- channel a's name in place of session k's
abbrev pub session_as : ℕ → NameId → Ref → Ref
session_as k a (Named x d) = if x == k then Named a.0 d else Named x d
session_as k a (Live n) = Live n

-- the code of role r's new process after a start of channel a, where the session has the channel's name
pub record IsStartCode (procs : List Proc) (a r : NameId) (s : Started) (c : CodeTree) : Type 0 where
  pub process : NameId
  pub serves : serving r s.serve ≡ Some process
  pub code : IsCodeOf procs process (put (λ p. p) (session_as s.session a) s.rest) c

-- the least code above the codes after all these starts
pub record IsServiceCode (procs : List Proc) (a r : NameId) (starts : List Started) (c : CodeTree) : Type 0 where
  pub codes : List CodeTree
  pub each : AllZip (IsStartCode procs a r) starts codes
  pub merged : IsLeastAbove codes c

-- ---- the lists

-- names without their places
abbrev pub names_of : List Written → List NameId
names_of xs = map (λ x. x.name) xs

-- there is a start
abbrev pub is_some_start : List Started → Bool
is_some_start [] = false
is_some_start (s ∷ ss) = true

-- the channels that a start names
abbrev pub started_services : File → List Service
started_services f = filter (λ s. is_some_start (starts_of f s.name.name)) f.services

-- the channel of the endpoint programs for a channel of the source
abbrev pub channel_from : Service → Channel
channel_from s = record { name = s.name.name; active = names_of s.active; serve = names_of s.serve }

-- each procedure with each of its process parameters
abbrev pub parameters_of : List Proc → List (Proc × ProcParam)
parameters_of [] = []
parameters_of (h ∷ hs) = map (λ p. (h, p)) h.params ++ parameters_of hs

-- each channel's name with each of its service roles
abbrev pub service_roles : List Service → List (NameId × NameId)
service_roles [] = []
service_roles (s ∷ ss) = map (λ r. (s.name.name, r.name)) s.serve ++ service_roles ss

-- ---- the projection

-- the endpoint procedure of a parameter, whose session parameters are those that list it
pub record IsProcedureOf (f : File) (e : Endpoints) (h : Proc × ProcParam) (q : Procedure) : Type 0 where
  pub name : q.name ≡ h.0.name.name
  pub param : q.param ≡ h.1.name.name
  pub sessions : q.sessions ≡ sessions_for h.1.name.name h.0.sessions
  pub body : IsCodeOf f.procs h.1.name.name (body_at f h.0.body) (code_at e.code.nodes q.body)

-- this unit is the code of that service role of that channel
pub record IsServiceOf (f : File) (e : Endpoints) (a : NameId × NameId) (s : ServiceCode) : Type 0 where
  pub channel : s.channel ≡ a.0
  pub role : s.role ≡ a.1
  pub body : IsServiceCode f.procs a.0 a.1 (starts_of f a.0) (code_at e.code.nodes s.body)

-- this unit is the code of that process
pub record IsProcessOf (f : File) (e : Endpoints) (p : Written) (q : Process) : Type 0 where
  pub name : q.name ≡ p.name
  pub body : IsCodeOf f.procs p.name (body_at f f.body) (code_at e.code.nodes q.body)

-- The endpoints e are the projection of the file f: its tables, the channels that a start names, and a unit for each
-- procedure parameter, service role of such a channel, and process, all in source order, and no others
pub record Projects (f : File) (e : Endpoints) : Type 0 where
  pub names : e.names ≡ f.names
  pub texts : e.texts ≡ f.texts
  pub channels : e.channels ≡ map channel_from (started_services f)
  pub procedures : AllZip (IsProcedureOf f e) (parameters_of f.procs) e.procedures
  pub services : AllZip (IsServiceOf f e) (service_roles (started_services f)) e.services
  pub processes : AllZip (IsProcessOf f e) f.processes e.processes
