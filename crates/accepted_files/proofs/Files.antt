-- In a file without faults what is declared differs, and each process uses the sessions in which it holds a role.
use Rattle.std.proofs.Common.{◌≡◌, ℕ, zero, suc, ◌<◌, List, [], ◌∷◌, ◌++◌, map, length, refl, sym, ap, ◌∙◌, subst, Some, None, Bool, true, false, ◌==◌, ◌||◌, arith}
use Rattle.std.specs.Prelude.{Contains, not}
use Rattle.std.specs.List.{AllByRecursion, flat_map}
use Rattle.chor_base.specs.declared.names.NameId.{NameId}
use Rattle.chor_base.specs.declared.fault.Fault.{Fault}
use Rattle.chor_base.specs.declared.rule.Rule.TheVariants.{N3}
use Rattle.chor_tree.specs.declared.file.File.{File}
use Rattle.chor_tree.specs.declared.file.Named.{Named as Written}
use Rattle.chor_tree.specs.declared.file.Proc.{Proc}
use Rattle.chor_tree.specs.declared.file.ProcParam.{ProcParam}
use Rattle.chor_tree.specs.declared.file.Service.{Service}
use Rattle.chor_tree.specs.declared.file.SessionParam.{SessionParam}
use Rattle.chor_tree.specs.Names.{is_among as is_in, names_in, repeated, unknown, unknown_role, has_each_once, wrong_roles, protocols_of, channels_of, protocol_of, first_named, named_as_channel, protocol_faults, channel_faults, session_faults, procedure_faults, scope_of_main, scope_of_procedure}
use Rattle.chor_tree.specs.Source.{body_of}
use Rattle.endpoint_code.specs.declared.endpoints.Endpoints.{Endpoints}
use Rattle.endpoint_code.specs.Network.{channel_of}
use Rattle.well_formed.specs.WellFormed.{AreDistinctRoles}
use Rattle.well_formed.proofs.References.{same_name, true_eq, or_left, or_rights}
use Rattle.delegation.specs.Checks.{all_differ}
use Rattle.typing_rules.specs.Environment.{at_main, at_procedure}
use Rattle.typed_sources.specs.Laws.{IsAccepted}
use Rattle.chor_semantics.specs.Blocks.{choreography_of}
use Rattle.chor_semantics.proofs.Blocks.{choreography_at}
use Rattle.typed_sources.proofs.Resolved.{both_empty, each_empty, found_in, is_named_there}
use Rattle.typed_sources.proofs.ProcedureHeads.{no_fault_at, not_true, is_known, all_apart, names_append, names_map}
use Rattle.typed_sources.proofs.Accepted.{declared, channels_fine, procedures_fine, main_faultless, procedures_keep}
use Rattle.typed_sources.proofs.Declared.{main_keeps, body_keeps}
use Rattle.typed_sources.proofs.Channels.{StartsIn, channel_there}
use Rattle.typed_sources.proofs.WellFormedFiles.{each_first, main_named, procedure_named, params_apart, sessions_named}
use Rattle.typed_sources.proofs.Roles.{once_apart}
use Rattle.accepted_files.proofs.StartedChannels.{named_so, main_starts, body_starts}
use Rattle.projection.specs.Projects.{Projects, starts_in, starts_in_procs, starts_of, body_at, is_some_start, channel_from}
use Rattle.accepted_files.specs.Held.{UsesHeld, StartUses}
use Rattle.accepted_files.proofs.Knows.{Knows, AreThere, DiffersThere}
use Rattle.accepted_files.proofs.HeldAlong.{block_uses}
use Rattle.accepted_files.proofs.Lists.{append_all, each_all}
use Rattle.accepted_files.proofs.Starts.{starts_use}
use Rattle.accepted_files.proofs.Heads.{listing, head_knows}

-- ---- names

-- what stands in a list has its name among the names
pub among_those : {A : Type 0} (nm : A → Written) (xs : List A) (x : A) → Contains xs x → is_in (map (λ z. (nm z).name) xs) (nm x).name ≡ true
among_those nm [] x (i, l, e) = absurd (omega (arith, l))
among_those nm (y ∷ ys) x (zero, l, e) = or_left _ _ (ap (λ z. (nm z).name.0 == (nm x).name.0) e ∙ true_eq (nm x).name.0)
among_those nm (y ∷ ys) x (suc i, l, e) = or_rights _ _ (among_those nm ys x (i, omega (arith, l), e))

-- ---- files

module _ (f : File) (words : List (List ℕ)) (ok : IsAccepted f words) where
  -- ---- what is declared differs

  abbrev of_protocols : List Fault
  of_protocols = repeated [] (map (λ p. p.name) f.protocols) ++ flat_map (protocol_faults f) f.protocols

  abbrev of_service_names : List Fault
  of_service_names = repeated [] (map (λ s. s.name) f.services)

  abbrev of_services : List Fault
  of_services = flat_map (channel_faults f) f.services

  abbrev of_procedure_names : List Fault
  of_procedure_names = repeated [] (map (λ p. p.name) f.procs)

  abbrev of_procedures : List Fault
  of_procedures = flat_map (procedure_faults f) f.procs

  -- no name of a process, a procedure or a service is repeated
  none_repeated : (repeated [] f.processes ≡ []) × (of_procedure_names ≡ []) × (of_service_names ≡ [])
  none_repeated =
      let w0 = both_empty (of_protocols ++ of_service_names ++ of_services ++ of_procedure_names ++ of_procedures) (repeated [] f.processes) (declared f words ok.names ok.protocols) in
      let w1 = both_empty (of_protocols ++ of_service_names ++ of_services ++ of_procedure_names) of_procedures w0.0 in
      let w2 = both_empty (of_protocols ++ of_service_names ++ of_services) of_procedure_names w1.0 in
      let w3 = both_empty (of_protocols ++ of_service_names) of_services w2.0 in
      (w0.1, w2.1, (both_empty of_protocols of_service_names w3.0).1)

  pub processes_differ : all_differ (names_in f.processes) ≡ true
  processes_differ = all_apart [] f.processes none_repeated.0

  pub procs_differ : all_differ (map (λ p. p.name.name) f.procs) ≡ true
  procs_differ = ap all_differ (sym (names_map (λ p. p.name) f.procs)) ∙ all_apart [] (map (λ p. p.name) f.procs) none_repeated.1

  pub services_differ : all_differ (map (λ s. s.name.name) f.services) ≡ true
  services_differ = ap all_differ (sym (names_map (λ s. s.name) f.services)) ∙ all_apart [] (map (λ s. s.name) f.services) none_repeated.2

  pub roles_once : (s : Service) → Contains f.services s → AreDistinctRoles (names_in s.active ++ names_in s.serve)
  roles_once s m =
      let fine = both_empty (unknown (protocols_of f) s.protocol) (wrong_roles (protocol_of f s.protocol.name) s) (each_empty (channel_faults f) f.services (channels_fine f words ok.names ok.protocols) s m) in
      let p = is_named_there (λ z. z.name) f.protocols s.protocol.name (is_known (protocols_of f) s.protocol fine.0) in
      let once = not_true _ (no_fault_at (not (has_each_once (names_in p.0.roles) (names_in (s.active ++ s.serve)))) N3 s.name (subst (λ o. wrong_roles o s ≡ []) p.1 fine.1)) in
      subst AreDistinctRoles (names_append s.active s.serve) (once_apart (names_in p.0.roles) (names_in (s.active ++ s.serve)) once)

  differs : DiffersThere f
  differs = record {
    roles = λ c s is. roles_once s (found_in (λ z. z.name) f.services c s is);
    params = λ h p is. params_apart f words ok p (found_in (λ z. z.name) f.procs h p is);
  }

  -- the roles of a session parameter's holders differ
  holders_differ : (h : Proc) → Contains f.procs h → AllByRecursion (λ k. all_differ (map (λ h. h.0.name) k.holders) ≡ true) h.sessions
  holders_differ h m = each_all (λ k. all_differ (map (λ h. h.0.name) k.holders) ≡ true) h.sessions one
    where
      one : (k : SessionParam) → Contains h.sessions k → all_differ (map (λ h. h.0.name) k.holders) ≡ true
      one k i =
          let R = repeated [] (map (λ q. q.name) h.params ++ map (λ k. k.name) h.sessions) in
          let V = flat_map (λ (q : ProcParam). repeated [] (map (λ v. v.0) q.vars)) h.params in
          let S = flat_map (session_faults f (map (λ q. q.name.name) h.params)) h.sessions in
          let all = (both_empty (R ++ V) S (each_empty (procedure_faults f) f.procs (procedures_fine f words ok.names ok.protocols) h m)).1 in
          let N = flat_map (λ (h' : Written × Written). unknown_role (protocol_of f k.protocol.name) h'.0 ++ unknown (map (λ q. q.name.name) h.params) h'.1) k.holders in
          let w = both_empty (named_as_channel f k.name ++ unknown (protocols_of f) k.protocol ++ N) (repeated [] (map (λ h. h.0) k.holders)) (each_empty (session_faults f (map (λ q. q.name.name) h.params)) h.sessions all k i) in
          ap all_differ (sym (names_map (λ h. h.0) k.holders)) ∙ all_apart [] (map (λ h. h.0) k.holders) w.1

  module _ (e : Endpoints) (pr : Projects f e) where
    -- ---- channels

    abbrev is_started : Service → Bool
    is_started s = is_some_start (starts_of f s.name.name)

    -- the endpoints have each channel that is started
    found_there : (c : NameId) (s : Service) → first_named (λ z. z.name) f.services c ≡ Some s → is_some_start (starts_of f c) ≡ true → channel_of e.channels c ≡ Some (channel_from s)
    found_there c s is some = ap (λ ks. channel_of ks c) pr.channels ∙ channel_there is_started f.services c s is (ap (λ z. is_some_start (starts_of f z)) (named_so f.services c s is) ∙ some)

    main_there : AreThere f e (choreography_of (body_of f f.body))
    main_there c s h is = found_there c s is (main_starts f c (subst (StartsIn c) (sym (choreography_at f.tree.nodes f.body)) h))

    body_there : (p : Proc) → Contains f.procs p → AreThere f e (choreography_of (body_of f p.body))
    body_there p m c s h is = found_there c s is (body_starts f c p m (subst (StartsIn c) (sym (choreography_at f.tree.nodes p.body)) h))

    -- ---- bodies

    -- where main begins nobody holds a role
    none_held : (r : NameId) → Knows r (λ y. false) at_main
    none_held r = record { there = λ k a h. absurd (nothing h); back = λ k h. absurd cc }
      where
        nothing : {q : NameId} → None ≡ Some q → ⊥
        nothing h = cc

    -- Each process of main uses the sessions in which it holds a role
    pub main_uses : (r : NameId) → is_in (names_in f.processes) r ≡ true → UsesHeld e f.procs r (body_at f f.body) (λ y. false)
    main_uses r there =
        subst (λ c. UsesHeld e f.procs r c (λ y. false)) (sym (choreography_at f.tree.nodes f.body))
        (block_uses f e differs r (body_of f f.body) (scope_of_main f) at_main (main_faultless f words ok.names ok.protocols ok.types) (main_named f words ok) (main_keeps f) main_there there (λ y. false) (none_held r))

    -- and each parameter in a procedure's body
    pub body_uses : (h : Proc) → Contains f.procs h → (q : ProcParam) → Contains h.params q → UsesHeld e f.procs q.name.name (body_at f h.body) (listing q.name.name h)
    body_uses h m q i =
        let is = each_first f words ok h m in
        let keep = procedures_keep f words ok.names ok.protocols ok.types in
        subst (λ c. UsesHeld e f.procs q.name.name c (listing q.name.name h)) (sym (choreography_at f.tree.nodes h.body))
        (block_uses f e differs q.name.name (body_of f h.body) (scope_of_procedure h) (at_procedure h) (keep.bodies h.name.name h is) (procedure_named f words ok h m) (body_keeps f words ok h.name.name h is) (body_there h m) (among_those (λ z. z.name) h.params q i) (listing q.name.name h)
        (head_knows q.name.name h (keep.proper h.name.name h is).sessions (holders_differ h m)))

    -- no session parameter has a channel's name
    no_session : (a : NameId) → is_in (channels_of f) a ≡ true → (ks : List SessionParam) → ((k : SessionParam) → Contains ks k → is_in (channels_of f) k.name.name ≡ false) → is_in (map (λ k. k.name.name) ks) a ≡ false
    no_session a known [] h = refl
    no_session a known (k ∷ ks) h = go (k.name.name.0 == a.0) refl (no_session a known ks (λ x m. h x (suc m.0, (let l : m.0 < length ks = m.1 in omega (arith, l)), m.2)))
      where
        go : (b : Bool) → (k.name.name.0 == a.0) ≡ b → is_in (map (λ k. k.name.name) ks) a ≡ false → (b || is_in (map (λ k. k.name.name) ks) a) ≡ false
        go false i rest = rest
        go true i rest =
            let x : is_in (channels_of f) a ≡ false = ap (is_in (channels_of f)) (sym (same_name k.name.name a i)) ∙ h k (0, omega arith, refl) in
            let y : true ≡ false = sym known ∙ x in absurd cc

    -- After each start of a channel its new processes use its session
    pub all_use : (a : NameId) → is_in (channels_of f) a ≡ true → AllByRecursion (StartUses e f.procs a) (starts_of f a)
    all_use a known = append_all (StartUses e f.procs a) (starts_in_procs f a f.procs) (starts_in a (body_at f f.body)) (procs f.procs (λ p m. m)) main
      where
        main : AllByRecursion (StartUses e f.procs a) (starts_in a (body_at f f.body))
        main =
            subst (λ c. AllByRecursion (StartUses e f.procs a) (starts_in a c)) (sym (choreography_at f.tree.nodes f.body))
            (starts_use e f differs a known (body_of f f.body) (scope_of_main f) at_main (main_faultless f words ok.names ok.protocols ok.types) (main_named f words ok) (main_keeps f) main_there refl)

        body : (h : Proc) → Contains f.procs h → AllByRecursion (StartUses e f.procs a) (starts_in a (body_at f h.body))
        body h m =
            let is = each_first f words ok h m in
            let keep = procedures_keep f words ok.names ok.protocols ok.types in
            subst (λ c. AllByRecursion (StartUses e f.procs a) (starts_in a c)) (sym (choreography_at f.tree.nodes h.body))
            (starts_use e f differs a known (body_of f h.body) (scope_of_procedure h) (at_procedure h) (keep.bodies h.name.name h is) (procedure_named f words ok h m) (body_keeps f words ok h.name.name h is) (body_there h m)
            (no_session a known h.sessions (sessions_named f words ok h m)))

        procs : (hs : List Proc) → ((h : Proc) → Contains hs h → Contains f.procs h) → AllByRecursion (StartUses e f.procs a) (starts_in_procs f a hs)
        procs [] within = tt
        procs (h ∷ hs) within =
            append_all (StartUses e f.procs a) (starts_in a (body_at f h.body)) (starts_in_procs f a hs) (body h (within h (0, omega arith, refl)))
            (procs hs (λ x m. within x (suc m.0, (let l : m.0 < length hs = m.1 in omega (arith, l)), m.2)))
