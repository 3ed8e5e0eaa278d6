-- The faults of a file's protocols (rules G1 to G3), each with its place.
use Rattle.std.specs.Prelude.{◌==◌, not, List, [], ◌++◌, Option, Some, None, is_some}
use Rattle.std.specs.List.{flat_map, list_any}
use Rattle.chor_base.specs.declared.fault.Fault.{Fault}
use Rattle.chor_base.specs.declared.rule.Rule.TheVariants.{G1, G2, G3}
use Rattle.chor_base.specs.Faults.{fault_if}
use Rattle.chor_tree.specs.declared.file.Named.{Named}
use Rattle.chor_tree.specs.declared.file.File.{File}
use Rattle.chor_tree.specs.declared.file.Proc.{Proc}
use Rattle.chor_tree.specs.declared.protocol.Payload.{Payload}
use Rattle.chor_tree.specs.declared.protocol.Payload.TheVariants.{Plain, Endpoint}
use Rattle.chor_tree.specs.declared.protocol.ProtoStep.{ProtoStep}
use Rattle.chor_tree.specs.declared.protocol.ProtoStep.TheVariants.{End, Value, Choice}
use Rattle.chor_tree.specs.Protocols.{Protocol}
use Rattle.chor_tree.specs.declared.protocol.State.{State}
use Rattle.chor_tree.specs.Names.{protocol_named}
use Rattle.global_types.specs.Moves.{state_named, is_named}

-- G1, at a name that none of these states has
abbrev pub unknown_state : List State → Named → List Fault
unknown_state ss n = fault_if (not (is_some (state_named ss n.name))) G1 n.place

-- G1, at a state that is told with its protocol; where there is no such protocol, there is no fault of this rule
abbrev pub unknown_state_in : Option Protocol → Named → List Fault
unknown_state_in None n = []
unknown_state_in (Some p) n = unknown_state p.states n

-- the state of an endpoint that its protocol hasn't
abbrev pub payload_faults : List Protocol → Payload → List Fault
payload_faults ps (Plain s) = []
payload_faults ps (Endpoint q s r) = unknown_state_in (protocol_named ps q.name) s

-- G2, at a receiver that is the sender
abbrev pub own_receiver : Named → Named → List Fault
own_receiver a b = fault_if (a.name.0 == b.name.0) G2 b.place

-- the faults of a step: the receiver, and the states that it names
abbrev pub step_faults : List Protocol → List State → ProtoStep → List Fault
step_faults ps ss End = []
step_faults ps ss (Value a b c next) = own_receiver a b ++ (payload_faults ps c ++ unknown_state ss next)
step_faults ps ss (Choice a b arms) = own_receiver a b ++ flat_map (λ arm. unknown_state ss arm.next) arms

-- G3, at a role that no step names
abbrev pub unused_role : List State → Named → List Fault
unused_role ss r = fault_if (not (list_any (λ s. is_named r.name s.step) ss)) G3 r.place

-- the faults of a protocol: roles without a part, and those of its steps
abbrev pub protocol_faults : List Protocol → Protocol → List Fault
protocol_faults ps p = flat_map (unused_role p.states) p.roles ++ flat_map (λ s. step_faults ps p.states s.step) p.states

-- the states of session parameters that their protocols haven't
abbrev pub procedure_faults : List Protocol → Proc → List Fault
procedure_faults ps f = flat_map (λ k. unknown_state_in (protocol_named ps k.protocol.name) k.state) f.sessions

-- All faults of the protocols of a file, and of what its procedures say of them
abbrev pub faults_of : File → List Fault
faults_of f = flat_map (protocol_faults f.protocols) f.protocols ++ flat_map (procedure_faults f.protocols) f.procs
