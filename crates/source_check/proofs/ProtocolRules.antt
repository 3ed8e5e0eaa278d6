-- The faults of protocols are violations of G1, G2 or G3, and a view has one fault at most.
use Rattle.std.proofs.Common.{ℕ, ◌==◌, List, ◌++◌, refl, Option, Some, None}
use Rattle.std.specs.Prelude.{Contains, flat_map, if◌then◌else◌}
use Rattle.chor_base.specs.declared.rule.Rule.{Rule}
use Rattle.chor_base.specs.declared.rule.Rule.TheVariants.{G1, G2, G3}
use Rattle.chor_base.specs.declared.fault.Fault.{Fault}
use Rattle.chor_tree.specs.declared.file.File.{File}
use Rattle.chor_tree.specs.declared.file.Named.{Named}
use Rattle.chor_tree.specs.declared.file.Proc.{Proc}
use Rattle.chor_tree.specs.declared.protocol.Payload.{Payload}
use Rattle.chor_tree.specs.declared.protocol.Payload.TheVariants.{Plain, Endpoint}
use Rattle.chor_tree.specs.Protocols.{Protocol}
use Rattle.chor_tree.specs.declared.protocol.ProtoStep.{ProtoStep}
use Rattle.chor_tree.specs.declared.protocol.ProtoStep.TheVariants.{End, Value, Choice}
use Rattle.chor_tree.specs.declared.protocol.State.{State}
use Rattle.chor_tree.specs.Names.{protocol_named}
use Rattle.global_types.specs.Faults.{unknown_state, unknown_state_in, payload_faults, own_receiver, step_faults, unused_role, protocol_faults, procedure_faults, faults_of}
use Rattle.source_check.proofs.ClassRules.{IsOf, Are, both, each, one_if, among}

abbrev pub protocol_rule : ℕ → Rule
protocol_rule n = if n == 49 then G1 else (if n == 50 then G2 else G3)

abbrev Protocols : List Fault → Type 0
Protocols xs = Are protocol_rule xs

two : (xs ys : List Fault) → Protocols xs → Protocols ys → Protocols (xs ++ ys)
two xs ys h i = both protocol_rule xs ys h i

all : {X : Type 0} (g : X → List Fault) → ((a : X) → Protocols (g a)) → (xs : List X) → Protocols (flat_map g xs)
all g h xs = each protocol_rule g h xs

is_unknown : (ss : List State) (n : Named) → Protocols (unknown_state ss n)
is_unknown ss n = one_if protocol_rule _ G1 n.place refl

is_unknown_in : (p : Option Protocol) (n : Named) → Protocols (unknown_state_in p n)
is_unknown_in None n = tt
is_unknown_in (Some p) n = is_unknown p.states n

of_payload : (ps : List Protocol) (c : Payload) → Protocols (payload_faults ps c)
of_payload ps (Plain s) = tt
of_payload ps (Endpoint q s r) = is_unknown_in (protocol_named ps q.name) s

is_own : (a b : Named) → Protocols (own_receiver a b)
is_own a b = one_if protocol_rule (a.name.0 == b.name.0) G2 b.place refl

of_step : (ps : List Protocol) (ss : List State) (s : ProtoStep) → Protocols (step_faults ps ss s)
of_step ps ss End = tt
of_step ps ss (Value a b c next) = two (own_receiver a b) _ (is_own a b) (two (payload_faults ps c) (unknown_state ss next) (of_payload ps c) (is_unknown ss next))
of_step ps ss (Choice a b arms) = two (own_receiver a b) _ (is_own a b) (all (λ arm. unknown_state ss arm.next) (λ arm. is_unknown ss arm.next) arms)

of_protocol : (ps : List Protocol) (p : Protocol) → Protocols (protocol_faults ps p)
of_protocol ps p =
    two (flat_map (unused_role p.states) p.roles) _ (all (unused_role p.states) (λ r. one_if protocol_rule _ G3 r.place refl) p.roles)
    (all (λ s. step_faults ps p.states s.step) (λ s. of_step ps p.states s.step) p.states)

of_procedure : (ps : List Protocol) (g : Proc) → Protocols (procedure_faults ps g)
of_procedure ps g = all (λ k. unknown_state_in (protocol_named ps k.protocol.name) k.state) (λ k. is_unknown_in (protocol_named ps k.protocol.name) k.state) g.sessions

of_file : (f : File) → Protocols (faults_of f)
of_file f = two (flat_map (protocol_faults f.protocols) f.protocols) _ (all (protocol_faults f.protocols) (of_protocol f.protocols) f.protocols) (all (procedure_faults f.protocols) (of_procedure f.protocols) f.procs)

pub is_protocol_rule : (f : File) (x : Fault) → Contains (faults_of f) x → IsOf protocol_rule x.rule
is_protocol_rule f x m = among protocol_rule (faults_of f) x (of_file f) m
