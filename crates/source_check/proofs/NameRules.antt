-- The faults of names are violations of N1, N2 or N3.
use Rattle.std.proofs.Common.{ℕ, ◌==◌, List, [], ◌∷◌, ◌++◌, refl, Option, Some, None}
use Rattle.std.specs.Prelude.{map, flat_map, if◌then◌else◌}
use Rattle.chor_base.specs.declared.names.NameId.{NameId}
use Rattle.chor_base.specs.declared.rule.Rule.{Rule}
use Rattle.chor_base.specs.declared.rule.Rule.TheVariants.{N1, N2, N3}
use Rattle.chor_base.specs.declared.fault.Fault.{Fault}
use Rattle.chor_tree.specs.declared.file.File.{File}
use Rattle.chor_tree.specs.declared.file.Named.{Named}
use Rattle.chor_tree.specs.declared.file.Proc.{Proc}
use Rattle.chor_tree.specs.declared.file.Service.{Service}
use Rattle.chor_tree.specs.declared.file.SessionParam.{SessionParam}
use Rattle.chor_tree.specs.declared.protocol.Payload.{Payload}
use Rattle.chor_tree.specs.declared.protocol.Payload.TheVariants.{Plain, Endpoint}
use Rattle.chor_tree.specs.Protocols.{Protocol}
use Rattle.chor_tree.specs.declared.protocol.ProtoStep.{ProtoStep}
use Rattle.chor_tree.specs.declared.protocol.ProtoStep.TheVariants.{End as Last, Value as Exchange, Choice}
use Rattle.chor_tree.specs.declared.tree.Form.{Form}
use Rattle.chor_tree.specs.declared.tree.Form.TheVariants.{Start, Value, Label, Give, Set, Host, Show, If, Call, End}
use Rattle.chor_tree.specs.declared.tree.NodeId.{NodeId}
use Rattle.chor_tree.specs.declared.tree.Part.{Part}
use Rattle.chor_tree.specs.Names.{Scope, names_in, is_among, unknown, unknown_role, unknown_process, unknown_session, unknown_function, named_as_channel, message_faults, wrong_roles, wrong_parts, wrong_numbers, repeated, payload_faults, step_faults, protocol_faults, channel_faults, session_faults, procedure_faults, declaration_faults, node_faults, protocols_of, protocol_of, channels_of, channel_of, procedures_of, procedure_of, IsBodyFault, here, further, IsNameFault, in_a_declaration, in_main, in_a_procedure}
use Rattle.source_check.proofs.ClassRules.{IsOf, Are, both, each, one_if, among}

abbrev pub name_rule : ℕ → Rule
name_rule n = if n == 49 then N1 else (if n == 50 then N2 else N3)

abbrev Names : List Fault → Type 0
Names xs = Are name_rule xs

two : (xs ys : List Fault) → Names xs → Names ys → Names (xs ++ ys)
two xs ys h i = both name_rule xs ys h i

all : {X : Type 0} (g : X → List Fault) → ((a : X) → Names (g a)) → (xs : List X) → Names (flat_map g xs)
all g h xs = each name_rule g h xs

is_unknown : (known : List NameId) (x : Named) → Names (unknown known x)
is_unknown known x = one_if name_rule _ N1 x.place refl

is_repeated : (known : List NameId) (xs : List Named) → Names (repeated known xs)
is_repeated known [] = tt
is_repeated known (x ∷ xs) = two _ (repeated (x.name ∷ known) xs) (one_if name_rule (is_among known x.name) N2 x.place refl) (is_repeated (x.name ∷ known) xs)

is_unknown_role : (p : Option Protocol) (r : Named) → Names (unknown_role p r)
is_unknown_role None r = tt
is_unknown_role (Some p) r = is_unknown (names_in p.roles) r

is_wrong_roles : (p : Option Protocol) (s : Service) → Names (wrong_roles p s)
is_wrong_roles None s = tt
is_wrong_roles (Some p) s = one_if name_rule _ N3 s.name.place refl

is_wrong_parts : (s : Option Service) (c : Named) (active serve : List Part) → Names (wrong_parts s c active serve)
is_wrong_parts None c active serve = tt
is_wrong_parts (Some s) c active serve = one_if name_rule _ N3 c.place refl

is_wrong_numbers : (p : Option Proc) (g : Named) (ps ks : List Named) → Names (wrong_numbers p g ps ks)
is_wrong_numbers None g ps ks = tt
is_wrong_numbers (Some p) g ps ks = one_if name_rule _ N3 g.place refl

module _ (f : File) where
  of_payload : (c : Payload) → Names (payload_faults f c)
  of_payload (Plain s) = tt
  of_payload (Endpoint p s r) = two _ (unknown_role (protocol_of f p.name) r) (is_unknown (protocols_of f) p) (is_unknown_role (protocol_of f p.name) r)

  of_step : (p : Protocol) (s : ProtoStep) → Names (step_faults f p s)
  of_step p Last = tt
  of_step p (Exchange a b c next) = two _ (payload_faults f c) (two _ _ (is_unknown (names_in p.roles) a) (is_unknown (names_in p.roles) b)) (of_payload c)
  of_step p (Choice a b arms) = two _ (repeated [] (map (λ arm. arm.label) arms)) (two _ _ (is_unknown (names_in p.roles) a) (is_unknown (names_in p.roles) b)) (is_repeated [] (map (λ arm. arm.label) arms))

  of_protocol : (p : Protocol) → Names (protocol_faults f p)
  of_protocol p =
      two _ (flat_map (λ s. step_faults f p s.step) p.states)
      (two (repeated [] p.roles) (repeated [] (map (λ s. s.name) p.states)) (is_repeated [] p.roles) (is_repeated [] (map (λ s. s.name) p.states)))
      (all (λ s. step_faults f p s.step) (λ s. of_step p s.step) p.states)

  of_channel : (s : Service) → Names (channel_faults f s)
  of_channel s = two _ (wrong_roles (protocol_of f s.protocol.name) s) (is_unknown (protocols_of f) s.protocol) (is_wrong_roles (protocol_of f s.protocol.name) s)

  is_channel : (k : Named) → Names (named_as_channel f k)
  is_channel k = one_if name_rule (is_among (channels_of f) k.name) N2 k.place refl

  of_session : (params : List NameId) (k : SessionParam) → Names (session_faults f params k)
  of_session params k =
      let holder = (λ (h : Named × Named). unknown_role (protocol_of f k.protocol.name) h.0 ++ unknown params h.1) in
      two _ (repeated [] (map (λ h. h.0) k.holders))
      (two _ (flat_map holder k.holders) (two (named_as_channel f k.name) _ (is_channel k.name) (is_unknown (protocols_of f) k.protocol))
      (all holder (λ h. two (unknown_role (protocol_of f k.protocol.name) h.0) _ (is_unknown_role (protocol_of f k.protocol.name) h.0) (is_unknown params h.1)) k.holders))
      (is_repeated [] (map (λ h. h.0) k.holders))

  of_procedure : (p : Proc) → Names (procedure_faults f p)
  of_procedure p =
      let heads = map (λ q. q.name) p.params ++ map (λ k. k.name) p.sessions in
      let params = map (λ q. q.name.name) p.params in
      two _ (flat_map (session_faults f params) p.sessions)
      (two (repeated [] heads) (flat_map (λ q. repeated [] (map (λ v. v.0) q.vars)) p.params) (is_repeated [] heads) (all (λ q. repeated [] (map (λ v. v.0) q.vars)) (λ q. is_repeated [] (map (λ v. v.0) q.vars)) p.params))
      (all (session_faults f params) (of_session params) p.sessions)

  of_declarations : Names (declaration_faults f)
  of_declarations =
      two _ (repeated [] f.processes)
      (two _ (flat_map (procedure_faults f) f.procs)
      (two _ (repeated [] (map (λ p. p.name) f.procs))
      (two _ (flat_map (channel_faults f) f.services)
      (two _ (repeated [] (map (λ s. s.name) f.services))
      (two (repeated [] (map (λ p. p.name) f.protocols)) (flat_map (protocol_faults f) f.protocols) (is_repeated [] (map (λ p. p.name) f.protocols)) (all (protocol_faults f) of_protocol f.protocols))
      (is_repeated [] (map (λ s. s.name) f.services)))
      (all (channel_faults f) of_channel f.services))
      (is_repeated [] (map (λ p. p.name) f.procs)))
      (all (procedure_faults f) of_procedure f.procs))
      (is_repeated [] f.processes)

  of_message : (s : Scope) (a b : Part) (k : Named) → Names (message_faults s a b k)
  of_message s a b k = two _ _ (two _ _ (is_unknown s.processes a.process) (is_unknown s.processes b.process)) (is_unknown s.sessions k)

  of_node : (hosts : List (List ℕ)) (s : Scope) (n : Form) → Names (node_faults f hosts s n)
  of_node hosts s (Start c k active serve next) =
      let bound = k ∷ map (λ q. q.process) serve in
      two _ (repeated (s.processes ++ s.sessions) bound)
      (two _ (named_as_channel f k)
      (two _ (flat_map (λ q. unknown_process s q.process) active)
      (two _ (wrong_parts (channel_of f c.name) c active serve) (is_unknown (channels_of f) c) (is_wrong_parts (channel_of f c.name) c active serve))
      (all (λ q. unknown_process s q.process) (λ q. is_unknown s.processes q.process) active))
      (is_channel k))
      (is_repeated (s.processes ++ s.sessions) bound)
  of_node hosts s (Value a e b x k next) = of_message s a b k
  of_node hosts s (Label a b k l next) = of_message s a b k
  of_node hosts s (Give a b k given next) = two (message_faults s a b k) (unknown_session s given.process) (of_message s a b k) (is_unknown s.sessions given.process)
  of_node hosts s (Set p x e next) = is_unknown s.processes p
  of_node hosts s (Host p x h a b next) = two _ (unknown_function f hosts h) (is_unknown s.processes p) (one_if name_rule _ N1 h.place refl)
  of_node hosts s (Show p e next) = is_unknown s.processes p
  of_node hosts s (If p e first second) = is_unknown s.processes p
  of_node hosts s (Call g ps ks) =
      two _ (flat_map (unknown_session s) ks)
      (two _ (flat_map (unknown_process s) ps) (two _ (wrong_numbers (procedure_of f g.name) g ps ks) (is_unknown (procedures_of f) g) (is_wrong_numbers (procedure_of f g.name) g ps ks)) (all (unknown_process s) (is_unknown s.processes) ps))
      (all (unknown_session s) (is_unknown s.sessions) ks)
  of_node hosts s End = tt

  of_body : (hosts : List (List ℕ)) (x : Fault) (s : Scope) (id : NodeId) → IsBodyFault f hosts x s id → IsOf name_rule x.rule
  of_body hosts x s id (here {n = n} at m) = among name_rule (node_faults f hosts s n.form) x (of_node hosts s n.form) m
  of_body hosts x s id (further at m b) = of_body hosts x _ _ b

  pub is_name_rule : (hosts : List (List ℕ)) (x : Fault) → IsNameFault f hosts x → IsOf name_rule x.rule
  is_name_rule hosts x (in_a_declaration m) = among name_rule (declaration_faults f) x of_declarations m
  is_name_rule hosts x (in_main b) = of_body hosts x _ _ b
  is_name_rule hosts x (in_a_procedure m b) = of_body hosts x _ _ b
