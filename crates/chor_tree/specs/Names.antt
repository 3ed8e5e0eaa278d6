-- What is declared in a file and what is in scope, and the faults of its names (rules N1 to N3), each with its place.
use Rattle.std.specs.Prelude.{ℕ, ◌≡◌, ◌==◌, ◌&&◌, Bool, true, false, not, List, [], ◌∷◌, ◌++◌, map, length, Option, Some, None, slice_get, Contains, bytes_eq, if◌then◌else◌}
use Rattle.std.specs.List.{flat_map, list_any, list_all, count_by}
use Rattle.chor_base.specs.declared.names.NameId.{NameId}
use Rattle.chor_base.specs.declared.rule.Rule.{Rule}
use Rattle.chor_base.specs.declared.rule.Rule.TheVariants.{N1, N2, N3}
use Rattle.chor_base.specs.declared.fault.Fault.{Fault}
use Rattle.chor_base.specs.Faults.{fault_if}
use Rattle.chor_base.specs.Writing.{name_in}
use Rattle.chor_tree.specs.declared.file.Named.{Named}
use Rattle.chor_tree.specs.declared.file.Service.{Service}
use Rattle.chor_tree.specs.declared.file.SessionParam.{SessionParam}
use Rattle.chor_tree.specs.declared.file.Proc.{Proc}
use Rattle.chor_tree.specs.declared.file.File.{File}
use Rattle.chor_tree.specs.declared.protocol.Payload.{Payload}
use Rattle.chor_tree.specs.declared.protocol.Payload.TheVariants.{Plain, Endpoint}
use Rattle.chor_tree.specs.declared.protocol.ProtoStep.{ProtoStep}
use Rattle.chor_tree.specs.declared.protocol.ProtoStep.TheVariants.{End as Last, Value as Exchange, Choice}
use Rattle.chor_tree.specs.Protocols.{Protocol}
use Rattle.chor_tree.specs.declared.tree.NodeId.{NodeId}
use Rattle.chor_tree.specs.declared.tree.Node.{Node}
use Rattle.chor_tree.specs.declared.tree.Part.{Part}
use Rattle.chor_tree.specs.declared.tree.Form.{Form}
use Rattle.chor_tree.specs.declared.tree.Form.TheVariants.{Start, Value, Label, Give, Set, Host, Show, If, Call, End}
use Rattle.chor_tree.specs.Children.{children_of}

-- a fault at a name, where the test says so
abbrev pub fault_at : Bool → Rule → Named → List Fault
fault_at b rule x = fault_if b rule x.place

-- ---- names

-- names without their places
abbrev pub names_in : List Named → List NameId
names_in xs = map (λ x. x.name) xs

-- the name is among these
abbrev pub is_among : List NameId → NameId → Bool
is_among xs x = list_any (λ y. y.0 == x.0) xs

-- N1, at a name that isn't among the known ones
abbrev pub unknown : List NameId → Named → List Fault
unknown known x = fault_at (not (is_among known x.name)) N1 x

-- N2, at each name of a list that is known already, or stands before in the list
abbrev pub repeated : List NameId → List Named → List Fault
repeated known [] = []
repeated known (x ∷ xs) = fault_at (is_among known x.name) N2 x ++ repeated (x.name ∷ known) xs

-- two lists have the same names in the same order
abbrev pub are_same : List NameId → List NameId → Bool
are_same [] [] = true
are_same [] (y ∷ ys) = false
are_same (x ∷ xs) [] = false
are_same (x ∷ xs) (y ∷ ys) = (x.0 == y.0) && are_same xs ys

-- a list has each of these names once, in any order, and no other
abbrev pub has_each_once : List NameId → List NameId → Bool
has_each_once names xs = list_all (λ r. count_by (λ x. x.0 == r.0) xs == 1) names && list_all (is_among names) xs

-- ---- declarations

-- the first item of that name counts
abbrev pub first_named : {A : Type 0} → (A → Named) → List A → NameId → Option A
first_named name [] x = None
first_named name (a ∷ as') x = if (name a).name.0 == x.0 then Some a else first_named name as' x

-- the names of all protocols
abbrev pub protocols_of : File → List NameId
protocols_of f = map (λ p. p.name.name) f.protocols

-- the names of all channels
abbrev pub channels_of : File → List NameId
channels_of f = map (λ s. s.name.name) f.services

-- the names of all procedures
abbrev pub procedures_of : File → List NameId
procedures_of f = map (λ p. p.name.name) f.procs

-- the first of these protocols that has this name
abbrev pub protocol_named : List Protocol → NameId → Option Protocol
protocol_named ps x = first_named (λ p. p.name) ps x

-- the first protocol of a name
abbrev pub protocol_of : File → NameId → Option Protocol
protocol_of f x = protocol_named f.protocols x

-- the first channel of a name
abbrev pub channel_of : File → NameId → Option Service
channel_of f x = first_named (λ s. s.name) f.services x

-- the first procedure of a name
abbrev pub procedure_of : File → NameId → Option Proc
procedure_of f x = first_named (λ p. p.name) f.procs x

-- N1, at a role that a protocol hasn't. Roles of a protocol that isn't declared have no fault
abbrev pub unknown_role : Option Protocol → Named → List Fault
unknown_role None r = []
unknown_role (Some p) r = unknown (names_in p.roles) r

-- ---- protocols and channels

-- those in a payload: the protocol and the role of an endpoint
abbrev pub payload_faults : File → Payload → List Fault
payload_faults f (Plain s) = []
payload_faults f (Endpoint p s r) = unknown (protocols_of f) p ++ unknown_role (protocol_of f p.name) r

-- those in a step: of its roles, of its payload or its labels
abbrev pub step_faults : File → Protocol → ProtoStep → List Fault
step_faults f p Last = []
step_faults f p (Exchange a b c next) = unknown (names_in p.roles) a ++ unknown (names_in p.roles) b ++ payload_faults f c
step_faults f p (Choice a b arms) = unknown (names_in p.roles) a ++ unknown (names_in p.roles) b ++ repeated [] (map (λ arm. arm.label) arms)

-- the faults of names in a protocol: in its roles, its states and its steps
abbrev pub protocol_faults : File → Protocol → List Fault
protocol_faults f p = repeated [] p.roles ++ repeated [] (map (λ s. s.name) p.states) ++ flat_map (λ s. step_faults f p s.step) p.states

-- N3, at the name of a channel whose roles, active ones and service roles together, aren't its protocol's roles, each once.
-- So a role that the protocol hasn't, or one that stands twice, is told at the channel's name
abbrev pub wrong_roles : Option Protocol → Service → List Fault
wrong_roles None s = []
wrong_roles (Some p) s = fault_at (not (has_each_once (names_in p.roles) (names_in (s.active ++ s.serve)))) N3 s.name

-- those of a channel: its protocol and its roles
abbrev pub channel_faults : File → Service → List Fault
channel_faults f s = unknown (protocols_of f) s.protocol ++ wrong_roles (protocol_of f s.protocol.name) s

-- ---- procedures

-- N2, at a session name that is also a channel's name
abbrev pub named_as_channel : File → Named → List Fault
named_as_channel f k = fault_at (is_among (channels_of f) k.name) N2 k

-- a session parameter of a procedure with these process parameters: `k : P.s {A = p, ..}`
abbrev pub session_faults : File → List NameId → SessionParam → List Fault
session_faults f params k =
    named_as_channel f k.name ++ unknown (protocols_of f) k.protocol
    ++ flat_map (λ h. unknown_role (protocol_of f k.protocol.name) h.0 ++ unknown params h.1) k.holders
    ++ repeated [] (map (λ h. h.0) k.holders)

-- those in the head of a procedure: in its parameters, their variables and its session parameters
abbrev pub procedure_faults : File → Proc → List Fault
procedure_faults f p =
    repeated [] (map (λ q. q.name) p.params ++ map (λ k. k.name) p.sessions)
    ++ flat_map (λ q. repeated [] (map (λ v. v.0) q.vars)) p.params
    ++ flat_map (session_faults f (map (λ q. q.name.name) p.params)) p.sessions

-- the faults outside of bodies
abbrev pub declaration_faults : File → List Fault
declaration_faults f =
    repeated [] (map (λ p. p.name) f.protocols) ++ flat_map (protocol_faults f) f.protocols
    ++ repeated [] (map (λ s. s.name) f.services) ++ flat_map (channel_faults f) f.services
    ++ repeated [] (map (λ p. p.name) f.procs) ++ flat_map (procedure_faults f) f.procs
    ++ repeated [] f.processes

-- ---- bodies

-- the processes and the sessions that may be named at a node. They share one name space
pub record Scope : Type 0 where
  pub processes : List NameId
  pub sessions : List NameId

-- at the beginning of main and of a procedure
abbrev pub scope_of_main : File → Scope
scope_of_main f = record { processes = names_in f.processes; sessions = [] }

-- at the beginning of a procedure its parameters are in scope
abbrev pub scope_of_procedure : Proc → Scope
scope_of_procedure p = record { processes = map (λ q. q.name.name) p.params; sessions = map (λ k. k.name.name) p.sessions }

-- what follows a start has its session and its new processes in scope besides
abbrev pub scope_after : Scope → Form → Scope
scope_after s (Start c k active serve next) =
    record { processes = s.processes ++ map (λ q. q.process.name) serve; sessions = s.sessions ++ k.name ∷ [] }
scope_after s _ = s

-- N1, at a process that isn't in scope
abbrev pub unknown_process : Scope → Named → List Fault
unknown_process s x = unknown s.processes x

-- N1, at a session that isn't in scope
abbrev pub unknown_session : Scope → Named → List Fault
unknown_session s x = unknown s.sessions x

-- N3, at the channel of a start whose roles aren't the channel's active roles in order and, after `new`, its service roles in order
abbrev pub wrong_parts : Option Service → Named → List Part → List Part → List Fault
wrong_parts None c active serve = []
wrong_parts (Some s) c active serve =
    fault_at (not (are_same (map (λ q. q.role.name) active) (names_in s.active) && are_same (map (λ q. q.role.name) serve) (names_in s.serve))) N3 c

-- N3, at the procedure of a call with another number of processes or sessions
abbrev pub wrong_numbers : Option Proc → Named → List Named → List Named → List Fault
wrong_numbers None g ps ks = []
wrong_numbers (Some p) g ps ks = fault_at (not ((length ps == length p.params) && (length ks == length p.sessions))) N3 g

-- N1, at a host function that isn't among those with these names
abbrev pub unknown_function : File → List (List ℕ) → Named → List Fault
unknown_function f hosts x = fault_at (not (list_any (bytes_eq (name_in f.names x.name)) hosts)) N1 x

-- the faults of names in a message: its two processes and its session
abbrev pub message_faults : Scope → Part → Part → Named → List Fault
message_faults s a b k = unknown_process s a.process ++ unknown_process s b.process ++ unknown_session s k

-- The faults of a node. A start binds its session and then its new processes, and may use none of these
abbrev pub node_faults : File → List (List ℕ) → Scope → Form → List Fault
node_faults f hosts s (Start c k active serve next) =
    unknown (channels_of f) c ++ wrong_parts (channel_of f c.name) c active serve
    ++ flat_map (λ q. unknown_process s q.process) active
    ++ named_as_channel f k ++ repeated (s.processes ++ s.sessions) (k ∷ map (λ q. q.process) serve)
node_faults f hosts s (Value a e b x k next) = message_faults s a b k
node_faults f hosts s (Label a b k l next) = message_faults s a b k
node_faults f hosts s (Give a b k given next) = message_faults s a b k ++ unknown_session s given.process
node_faults f hosts s (Set p x e next) = unknown_process s p
node_faults f hosts s (Host p x h a b next) = unknown_process s p ++ unknown_function f hosts h
node_faults f hosts s (Show p e next) = unknown_process s p
node_faults f hosts s (If p e first second) = unknown_process s p
node_faults f hosts s (Call g ps ks) =
    unknown (procedures_of f) g ++ wrong_numbers (procedure_of f g.name) g ps ks
    ++ flat_map (unknown_process s) ps ++ flat_map (unknown_session s) ks
node_faults f hosts s End = []

-- a fault of the node at a number, or of one that follows it, where these names are in scope
pub data IsBodyFault (f : File) (hosts : List (List ℕ)) (x : Fault) : Scope → NodeId → Type 0 where
  here : {s : Scope} {id : NodeId} {n : Node}
      → slice_get f.tree.nodes id.0 ≡ Some n → Contains (node_faults f hosts s n.form) x
      → IsBodyFault f hosts x s id
  further : {s : Scope} {id next : NodeId} {n : Node}
      → slice_get f.tree.nodes id.0 ≡ Some n → Contains (children_of n.form) next → IsBodyFault f hosts x (scope_after s n.form) next
      → IsBodyFault f hosts x s id

-- A fault of the names of a file, where the host functions have these names
pub data IsNameFault (f : File) (hosts : List (List ℕ)) (x : Fault) : Type 0 where
  in_a_declaration : Contains (declaration_faults f) x → IsNameFault f hosts x
  in_main : IsBodyFault f hosts x (scope_of_main f) f.body → IsNameFault f hosts x
  in_a_procedure : {p : Proc} → Contains f.procs p → IsBodyFault f hosts x (scope_of_procedure p) p.body → IsNameFault f hosts x
