-- From a file without faults of names, protocols and types: main and the procedures' bodies are well formed, and each
-- channel has an active role and no role twice.
use Rattle.std.proofs.Common.{◌≡◌, ℕ, zero, suc, ◌<◌, List, [], ◌∷◌, ◌++◌, map, length, refl, sym, ap, ◌∙◌, subst, Some, Bool, true, false, if◌then◌else◌, ◌==◌, ◌||◌, arith}
use Rattle.std.specs.Prelude.{Contains, not}
use Rattle.std.specs.List.{flat_map}
use Rattle.std.proofs.lemmas.Bool.{and_parts}
use Rattle.chor_base.specs.declared.names.NameId.{NameId}
use Rattle.chor_base.specs.declared.rule.Rule.TheVariants.{N2, N3}
use Rattle.chor_base.specs.declared.fault.Fault.{Fault}
use Rattle.chor_tree.specs.declared.file.File.{File}
use Rattle.chor_tree.specs.declared.file.Named.{Named as Written}
use Rattle.chor_tree.specs.declared.file.Proc.{Proc}
use Rattle.chor_tree.specs.declared.file.ProcParam.{ProcParam}
use Rattle.chor_tree.specs.declared.file.SessionParam.{SessionParam}
use Rattle.chor_tree.specs.declared.file.Service.{Service}
use Rattle.chor_tree.specs.Protocols.{has_items}
use Rattle.chor_tree.specs.Names.{unknown, protocols_of, channels_of, wrong_roles, protocol_of, first_named, has_each_once, in_main, in_a_procedure, is_among, names_in, repeated, procedure_of, procedure_faults, session_faults, channel_faults, protocol_faults, named_as_channel, unknown_role, scope_of_main, scope_of_procedure}
use Rattle.chor_tree.specs.Source.{body_of}
use Rattle.chor_semantics.specs.Sources.{procedure_from, procedures_of, tree_in, trees_of}
use Rattle.endpoint_code.specs.declared.endpoints.Channel.{Channel}
use Rattle.endpoint_code.specs.Network.{channel_of as channel_in}
use Rattle.well_formed.specs.WellFormed.{AreDistinctRoles, AreDistinctRefs, names_in_scope, declared_scope, IsWellFormed, ProcedureFits, AllFit}
use Rattle.well_formed.proofs.References.{true_eq, same_name, clash}
use Rattle.delegation.specs.Checks.{all_differ}
use Rattle.typing_rules.specs.Environment.{at_main, at_procedure}
use Rattle.typed_sources.proofs.Calls.{all_of}
use Rattle.typed_sources.specs.Laws.{IsAccepted}
use Rattle.chor_semantics.proofs.Blocks.{choreography_at}
use Rattle.typed_sources.proofs.Resolved.{both_empty, each_empty, found_in, is_named_there}
use Rattle.typed_sources.proofs.ProcedureHeads.{no_fault_at, not_true, is_known, all_apart, names_append, names_map}
use Rattle.typed_sources.proofs.Accepted.{good, main_faultless, procedures_keep, procedures_fine, channels_fine, declared, bodies_there, procs_there, less}
use Rattle.typed_sources.proofs.Opened.{not_is}
use Rattle.typed_sources.proofs.Places.{from_file}
use Rattle.typed_sources.proofs.Declared.{main_keeps, body_keeps}
use Rattle.typed_sources.proofs.Channels.{channels_from, AreWanted, channel_back}
use Rattle.typed_sources.proofs.References.{distinct_refs, front_differ}
use Rattle.typed_sources.proofs.Named.{AreNamed, body_named}
use Rattle.typed_sources.proofs.BlockScopes.{alike_first}
use Rattle.typed_sources.proofs.Fit.{block_fits}
use Rattle.typed_sources.proofs.Roles.{once_apart, front_apart, back_apart}

has_one : {A : Type 0} (xs : List A) → has_items xs ≡ true → 0 < length xs
has_one [] h = absurd (clash h)
  where
    clash : has_items {A = ℕ} [] ≡ true → ⊥
    clash t = cc
has_one (x ∷ xs) h = omega arith

named_among : (ps : List Proc) (p : Proc) (x : NameId) → first_named (λ q. q.name) ps x ≡ Some p → is_among (map (λ q. q.name.name) ps) x ≡ true
named_among [] p x h = absurd cc
named_among (q ∷ qs) p x h = go (q.name.name.0 == x.0) h (named_among qs p x)
  where
    go : (b : Bool) → (if b then Some q else first_named (λ q. q.name) qs x) ≡ Some p → (first_named (λ q. q.name) qs x ≡ Some p → is_among (map (λ q. q.name.name) qs) x ≡ true) → (b || is_among (map (λ q. q.name.name) qs) x) ≡ true
    go true i ih = refl
    go false i ih = ih i

-- among procedures whose names differ each is the first of its name
first_of : (ps : List Proc) → all_differ (map (λ q. q.name.name) ps) ≡ true → (p : Proc) → Contains ps p → first_named (λ q. q.name) ps p.name.name ≡ Some p
first_of [] od p (i, l, e) = absurd (omega (arith, l))
first_of (q ∷ qs) od p (zero, l, e) = go (q.name.name.0 == p.name.name.0) (ap (λ (z : Proc). z.name.name.0 == p.name.name.0) e ∙ true_eq p.name.name.0)
  where
    go : (b : Bool) → b ≡ true → (if b then Some q else first_named (λ q. q.name) qs p.name.name) ≡ Some p
    go true i = ap Some e
    go false i = absurd cc
first_of (q ∷ qs) od p (suc i, l, e) = go (q.name.name.0 == p.name.name.0) refl (first_of qs w.1 p (i, omega (arith, l), e))
  where
    w : (not (is_among (map (λ q. q.name.name) qs) q.name.name) ≡ true) × (all_differ (map (λ q. q.name.name) qs) ≡ true)
    w = and_parts _ _ od

    go : (b : Bool) → (q.name.name.0 == p.name.name.0) ≡ b → first_named (λ q. q.name) qs p.name.name ≡ Some p → (if b then Some q else first_named (λ q. q.name) qs p.name.name) ≡ Some p
    go false i ih = ih
    go true i ih = absurd (clash (named_among qs p p.name.name ih) (ap (is_among (map (λ q. q.name.name) qs)) (sym (same_name q.name.name p.name.name i)) ∙ not_is _ w.0))

module _ (f : File) (words : List (List ℕ)) (ok : IsAccepted f words) where
  -- ---- channels

  -- Each channel of the endpoints has an active role
  pub active_there : (wanted : Service → Bool) (c : NameId) (k : Channel) → channel_in (channels_from wanted f) c ≡ Some k → 0 < length k.active
  active_there wanted c k h =
      let s = channel_back wanted f.services c k h in
      let filled = all_of (λ (z : Service). has_items z.active) f.services (and_parts _ _ (and_parts _ _ f.kept.filled).0).0 s.0 s.1 in
      subst (λ (z : Channel). 0 < length z.active) s.2 (longer s.0.active (has_one s.0.active filled))
    where
      longer : (xs : List Written) → 0 < length xs → 0 < length (names_in xs)
      longer [] l = absurd (omega (arith, l))
      longer (x ∷ xs) l = omega arith

  roles_once : (s : Service) → Contains f.services s → AreDistinctRoles (names_in s.active ++ names_in s.serve)
  roles_once s m =
      let fine = both_empty (unknown (protocols_of f) s.protocol) (wrong_roles (protocol_of f s.protocol.name) s) (each_empty (channel_faults f) f.services (channels_fine f words ok.names ok.protocols) s m) in
      let p = is_named_there (λ z. z.name) f.protocols s.protocol.name (is_known (protocols_of f) s.protocol fine.0) in
      let once = not_true _ (no_fault_at (not (has_each_once (names_in p.0.roles) (names_in (s.active ++ s.serve)))) N3 s.name (subst (λ o. wrong_roles o s ≡ []) p.1 fine.1)) in
      subst AreDistinctRoles (names_append s.active s.serve) (once_apart (names_in p.0.roles) (names_in (s.active ++ s.serve)) once)

  -- and no role twice
  pub roles_apart : (wanted : Service → Bool) (c : NameId) (k : Channel) → channel_in (channels_from wanted f) c ≡ Some k → AreDistinctRoles k.active × AreDistinctRoles k.serve
  roles_apart wanted c k h =
      let s = channel_back wanted f.services c k h in
      let apart = roles_once s.0 s.1 in
      subst (λ (z : Channel). AreDistinctRoles z.active × AreDistinctRoles z.serve) s.2
      (front_apart (names_in s.0.active) (names_in s.0.serve) apart, back_apart (names_in s.0.active) (names_in s.0.serve) apart)

  -- ---- names

  -- No process of main is declared twice
  pub processes_apart : AreDistinctRefs (names_in_scope (map (λ p. p.name) f.processes))
  processes_apart =
      distinct_refs (names_in f.processes) (all_apart [] f.processes
      (both_empty (repeated [] (map (λ p. p.name) f.protocols) ++ flat_map (protocol_faults f) f.protocols ++ repeated [] (map (λ s. s.name) f.services) ++ flat_map (channel_faults f) f.services ++ repeated [] (map (λ p. p.name) f.procs) ++ flat_map (procedure_faults f) f.procs)
      (repeated [] f.processes) (declared f words ok.names ok.protocols)).1)

  -- each procedure is the first of its name
  pub each_first : (p : Proc) → Contains f.procs p → procedure_of f p.name.name ≡ Some p
  each_first p m =
      first_of f.procs (ap all_differ (sym (names_map (λ q. q.name) f.procs)) ∙ all_apart [] (map (λ q. q.name) f.procs) apart) p m
    where
      A : List Fault
      A = repeated [] (map (λ p. p.name) f.protocols) ++ flat_map (protocol_faults f) f.protocols ++ repeated [] (map (λ s. s.name) f.services) ++ flat_map (channel_faults f) f.services

      B : List Fault
      B = repeated [] (map (λ p. p.name) f.procs)

      apart : repeated [] (map (λ p. p.name) f.procs) ≡ []
      apart = (both_empty A B (both_empty (A ++ B) (flat_map (procedure_faults f) f.procs) (both_empty (A ++ B ++ flat_map (procedure_faults f) f.procs) (repeated [] f.processes) (declared f words ok.names ok.protocols)).0).0).1

  -- the names of the blocks of main and of a procedure
  pub main_named : AreNamed f (scope_of_main f) (body_of f f.body)
  main_named =
      body_named f words ok.names ok.protocols (suc f.body.0) (scope_of_main f) f.body (omega arith)
      (less f words ok.names ok.protocols ok.types f.body.0 (length f.tree.nodes) (and_parts _ _ (bodies_there f words ok.names ok.protocols ok.types)).0) (λ x h. ok.names x (in_main h))

  pub procedure_named : (p : Proc) → Contains f.procs p → AreNamed f (scope_of_procedure p) (body_of f p.body)
  procedure_named p m =
      body_named f words ok.names ok.protocols (suc p.body.0) (scope_of_procedure p) p.body (omega arith)
      (less f words ok.names ok.protocols ok.types p.body.0 (length f.tree.nodes) (procs_there f words ok.names ok.protocols ok.types f.procs (and_parts _ _ (bodies_there f words ok.names ok.protocols ok.types)).1 p m)) (λ x b. ok.names x (in_a_procedure m b))

  -- the names of a procedure's parameters and sessions differ
  pub head_apart : (p : Proc) → Contains f.procs p → all_differ (names_in (map (λ q. q.name) p.params) ++ names_in (map (λ k. k.name) p.sessions)) ≡ true
  head_apart p m =
      let R = repeated [] (map (λ q. q.name) p.params ++ map (λ k. k.name) p.sessions) in
      let V = flat_map (λ (q : ProcParam). repeated [] (map (λ v. v.0) q.vars)) p.params in
      let S = flat_map (session_faults f (map (λ q. q.name.name) p.params)) p.sessions in
      let fine = (both_empty R V (both_empty (R ++ V) S (each_empty (procedure_faults f) f.procs (procedures_fine f words ok.names ok.protocols) p m)).0).0 in
      ap all_differ (sym (names_append (map (λ q. q.name) p.params) (map (λ k. k.name) p.sessions))) ∙ all_apart [] (map (λ q. q.name) p.params ++ map (λ k. k.name) p.sessions) fine

  pub params_apart : (p : Proc) → Contains f.procs p → all_differ (map (λ q. q.name.name) p.params) ≡ true
  params_apart p m = ap all_differ (sym (names_map (λ q. q.name) p.params)) ∙ front_differ (names_in (map (λ q. q.name) p.params)) (names_in (map (λ k. k.name) p.sessions)) (head_apart p m)

  -- no session parameter has a channel's name
  pub sessions_named : (p : Proc) → Contains f.procs p → (k : SessionParam) → Contains p.sessions k → is_among (channels_of f) k.name.name ≡ false
  sessions_named p m k i =
      let R = repeated [] (map (λ q. q.name) p.params ++ map (λ k. k.name) p.sessions) in
      let V = flat_map (λ (q : ProcParam). repeated [] (map (λ v. v.0) q.vars)) p.params in
      let S = flat_map (session_faults f (map (λ q. q.name.name) p.params)) p.sessions in
      let all = (both_empty (R ++ V) S (each_empty (procedure_faults f) f.procs (procedures_fine f words ok.names ok.protocols) p m)).1 in
      let H = flat_map (λ (h : Written × Written). unknown_role (protocol_of f k.protocol.name) h.0 ++ unknown (map (λ q. q.name.name) p.params) h.1) k.holders in
      let w0 = both_empty (named_as_channel f k.name ++ unknown (protocols_of f) k.protocol ++ H) (repeated [] (map (λ h. h.0) k.holders)) (each_empty (session_faults f (map (λ q. q.name.name) p.params)) p.sessions all k i) in
      let w1 = both_empty (named_as_channel f k.name ++ unknown (protocols_of f) k.protocol) H w0.0 in
      no_fault_at (is_among (channels_of f) k.name.name) N2 k.name (both_empty (named_as_channel f k.name) (unknown (protocols_of f) k.protocol) w1.0).0

  -- ---- trees

  module _ (wanted : Service → Bool) where
    -- Main is well formed, where the endpoints have the channels that it starts
    pub main_fits : AreWanted wanted f (tree_in (trees_of f.tree.nodes) f.body)
        → IsWellFormed (channels_from wanted f) (procedures_of f) (declared_scope (map (λ p. p.name) f.processes) []) (tree_in (trees_of f.tree.nodes) f.body)
    main_fits want =
        subst (IsWellFormed (channels_from wanted f) (procedures_of f) (declared_scope (map (λ p. p.name) f.processes) [])) (sym (choreography_at f.tree.nodes f.body))
        (block_fits f (good f words ok.names ok.protocols ok.types) wanted (body_of f f.body) (scope_of_main f) at_main (main_faultless f words ok.names ok.protocols ok.types) main_named (main_keeps f)
        (declared_scope (map (λ p. p.name) f.processes) []) (alike_first (names_in f.processes) []) (subst (AreWanted wanted f) (choreography_at f.tree.nodes f.body) want))

    -- Each procedure is well formed
    pub all_fit : ((p : Proc) → Contains f.procs p → AreWanted wanted f (tree_in (trees_of f.tree.nodes) p.body)) → AllFit (channels_from wanted f) (procedures_of f)
    all_fit want h b is =
        let p = from_file f h b is in
        subst (ProcedureFits (channels_from wanted f) (procedures_of f)) p.same (one p.proc p.is)
      where
        one : (p : Proc) → procedure_of f h ≡ Some p → ProcedureFits (channels_from wanted f) (procedures_of f) (procedure_from f.tree.nodes p)
        one p is =
            let m = found_in (λ q. q.name) f.procs h p is in
            let keep = procedures_keep f words ok.names ok.protocols ok.types in
            let sc = declared_scope (map (λ q. q.name.name) p.params) (map (λ k. k.name.name) p.sessions) in
            record {
              params = distinct_refs (map (λ q. q.name.name) p.params) (params_apart p m);
              sessions = distinct_refs (map (λ k. k.name.name) p.sessions) (keep.proper h p is).sessions;
              body = subst (IsWellFormed (channels_from wanted f) (procedures_of f) sc) (sym (choreography_at f.tree.nodes p.body))
                  (block_fits f (good f words ok.names ok.protocols ok.types) wanted (body_of f p.body) (scope_of_procedure p) (at_procedure p) (keep.bodies h p is) (procedure_named p m) (body_keeps f words ok h p is)
                  sc (alike_first (map (λ q. q.name.name) p.params) (map (λ k. k.name.name) p.sessions)) (subst (AreWanted wanted f) (choreography_at f.tree.nodes p.body) (want p m)));
            }
