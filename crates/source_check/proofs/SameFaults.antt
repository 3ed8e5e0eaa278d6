-- Files with the same source have the same faults of names and protocols.
use Rattle.std.proofs.Common.{◌≡◌, ℕ, List, [], ◌++◌, map, refl, sym, ap, ◌∙◌, subst}
use Rattle.std.specs.Prelude.{Contains, flat_map}
use Rattle.std.proofs.lemmas.List.Folds.{flat_map-map}
use Rattle.std.proofs.lemmas.Simd.{map-map}
use Rattle.chor_base.specs.declared.names.NameId.{NameId}
use Rattle.chor_base.specs.declared.rule.Rule.TheVariants.{N2}
use Rattle.chor_base.specs.declared.fault.Fault.{Fault}
use Rattle.chor_tree.specs.declared.file.File.{File}
use Rattle.chor_tree.specs.declared.file.Proc.{Proc}
use Rattle.chor_tree.specs.declared.file.Service.{Service}
use Rattle.chor_tree.specs.declared.file.SessionParam.{SessionParam}
use Rattle.chor_tree.specs.declared.protocol.Payload.{Payload}
use Rattle.chor_tree.specs.declared.protocol.Payload.TheVariants.{Plain, Endpoint}
use Rattle.chor_tree.specs.Protocols.{Protocol}
use Rattle.chor_tree.specs.declared.protocol.ProtoStep.{ProtoStep}
use Rattle.chor_tree.specs.declared.protocol.ProtoStep.TheVariants.{End, Value, Choice}
use Rattle.chor_tree.specs.Names.{names_in, is_among, fault_at, first_named, protocols_of, protocol_of, unknown, unknown_role, wrong_roles, repeated, payload_faults, step_faults, protocol_faults, channel_faults, session_faults, procedure_faults, declaration_faults, scope_of_main, scope_of_procedure, IsBodyFault, IsNameFault, in_a_declaration, in_main, in_a_procedure}
use Rattle.global_types.specs.Faults as types
use Rattle.global_types.specs.Faults.{faults_of}
use Rattle.chor_tree.specs.Source.{Procedure, Source, procedure_of, source_of}
use Rattle.source_check.proofs.SameBodies.{contains_map, contains_of_map, head_of, bare, by_heads, channels_same, carried}

-- ---- the faults outside of bodies, of two files with the same source

module _ (f g : File) (same : source_of f ≡ source_of g) where
  pub declared_same : f.protocols ≡ g.protocols
  declared_same = ap (λ (s : Source). s.items.protocols) same

  protocols_same : protocols_of f ≡ protocols_of g
  protocols_same = ap (map (λ p. p.name.name)) declared_same

  named_same : (x : NameId) → protocol_of f x ≡ protocol_of g x
  named_same x = ap (λ ps. first_named (λ p. p.name) ps x) declared_same

  payload_same : (p : Payload) → payload_faults f p ≡ payload_faults g p
  payload_same (Plain s) = refl
  payload_same (Endpoint p s r) = λ i. unknown (protocols_same i) p ++ unknown_role (named_same p.name i) r

  step_same : (p : Protocol) (s : ProtoStep) → step_faults f p s ≡ step_faults g p s
  step_same p End = refl
  step_same p (Value a b c next) = λ i. unknown (names_in p.roles) a ++ unknown (names_in p.roles) b ++ payload_same c i
  step_same p (Choice a b arms) = refl

  protocol_same : (p : Protocol) → protocol_faults f p ≡ protocol_faults g p
  protocol_same p = λ i. repeated [] p.roles ++ repeated [] (map (λ s. s.name) p.states) ++ flat_map (λ s. step_same p s.step i) p.states

  channel_same : (s : Service) → channel_faults f s ≡ channel_faults g s
  channel_same s = λ i. unknown (protocols_same i) s.protocol ++ wrong_roles (named_same s.protocol.name i) s

  session_same : (params : List NameId) (k : SessionParam) → session_faults f params k ≡ session_faults g params k
  session_same params k =
      λ i. fault_at (is_among (channels_same f g same i) k.name.name) N2 k.name ++ unknown (protocols_same i) k.protocol
      ++ flat_map (λ h. unknown_role (named_same k.protocol.name i) h.0 ++ unknown params h.1) k.holders
      ++ repeated [] (map (λ h. h.0) k.holders)

  procedure_same : (p : Proc) → procedure_faults f p ≡ procedure_faults g p
  procedure_same p =
      λ i. repeated [] (map (λ q. q.name) p.params ++ map (λ k. k.name) p.sessions)
      ++ flat_map (λ q. repeated [] (map (λ v. v.0) q.vars)) p.params
      ++ flat_map (λ k. session_same (map (λ q. q.name.name) p.params) k i) p.sessions

  procedures_same : flat_map (procedure_faults f) f.procs ≡ flat_map (procedure_faults g) g.procs
  procedures_same = (λ i. flat_map (λ p. procedure_same p i) f.procs) ∙ by_heads f g same (flat_map (procedure_faults g)) (flat_map-map (procedure_faults g) bare)

  names_same : map (λ p. p.name) f.procs ≡ map (λ p. p.name) g.procs
  names_same = by_heads f g same (map (λ p. p.name)) (map-map (λ p. p.name) bare)

  declarations_same : declaration_faults f ≡ declaration_faults g
  declarations_same =
      λ i. repeated [] (map (λ p. p.name) (declared_same i)) ++ flat_map (λ p. protocol_same p i) (declared_same i)
      ++ repeated [] (map (λ s. s.name) (same i).items.services) ++ flat_map (λ s. channel_same s i) (same i).items.services
      ++ repeated [] (names_same i) ++ procedures_same i
      ++ repeated [] (same i).processes

  sessions_same : flat_map (types.procedure_faults f.protocols) f.procs ≡ flat_map (types.procedure_faults g.protocols) g.procs
  sessions_same =
      ap (λ ps. flat_map (types.procedure_faults ps) f.procs) declared_same
      ∙ by_heads f g same (flat_map (types.procedure_faults g.protocols)) (flat_map-map (types.procedure_faults g.protocols) bare)

  pub types_same : faults_of f ≡ faults_of g
  types_same = λ i. flat_map (types.protocol_faults (declared_same i)) (declared_same i) ++ sessions_same i

-- ---- the rules that they violate, where they have the same names besides

module _ (hosts : List (List ℕ)) (f g : File) (same_names : f.names ≡ g.names) (same : source_of f ≡ source_of g) where
  pub name_fault : (x : Fault) → IsNameFault f hosts x → IsNameFault g hosts x
  name_fault x (in_a_declaration m) = in_a_declaration (subst (λ xs. Contains xs x) (declarations_same f g same) m)
  name_fault x (in_main b) =
      let scope : scope_of_main f ≡ scope_of_main g = ap (λ (s : Source). record { processes = names_in s.processes; sessions = [] }) same in
      in_main (subst (λ s. IsBodyFault g hosts x s g.body) scope (carried f g same same_names hosts x (scope_of_main f) f.body g.body (ap (λ (s : Source). s.body) same) b))
  name_fault x (in_a_procedure {p = p} m b) =
      let mine = procedure_of f.tree.nodes p in
      let c = contains_of_map (procedure_of g.tree.nodes) g.procs mine (subst (λ (s : Source). Contains s.items.procedures mine) same (contains_map (procedure_of f.tree.nodes) f.procs p m)) in
      let scope = ap (λ (q : Procedure). scope_of_procedure (head_of q)) (sym c.2) in
      in_a_procedure c.1 (subst (λ s. IsBodyFault g hosts x s c.0.body) scope
      (carried f g same same_names hosts x (scope_of_procedure p) p.body c.0.body (ap (λ (q : Procedure). q.body) (sym c.2)) b))
