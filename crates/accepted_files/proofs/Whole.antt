-- The projection of a guarded file without faults has no fault of names and calls.
use Rattle.std.proofs.Common.{◌≡◌, ℕ, ◌<◌, List, [], ◌∷◌, ◌++◌, map, length, refl, sym, ap, ◌∙◌, subst, Some, Bool, true, false}
use Rattle.std.specs.Prelude.{Contains, All}
use Rattle.std.specs.List.{AllByRecursion, AllZip}
use Rattle.std.proofs.lemmas.List.Elements.{All-from_recursion, recursion_from_All}
use Rattle.chor_base.specs.declared.names.NameId.{NameId}
use Rattle.chor_tree.specs.declared.file.File.{File}
use Rattle.chor_tree.specs.declared.file.Named.{Named as Written}
use Rattle.chor_tree.specs.declared.file.Proc.{Proc}
use Rattle.chor_tree.specs.declared.file.ProcParam.{ProcParam}
use Rattle.chor_tree.specs.declared.file.Service.{Service}
use Rattle.chor_tree.specs.Names.{is_among as is_in, names_in, channels_of}
use Rattle.chor_semantics.specs.Choreography.{Named}
use Rattle.endpoint_code.specs.declared.code.CodeId.{CodeId}
use Rattle.endpoint_code.specs.declared.endpoints.Channel.{Channel}
use Rattle.endpoint_code.specs.declared.endpoints.Procedure.{Procedure}
use Rattle.endpoint_code.specs.declared.endpoints.ServiceCode.{ServiceCode}
use Rattle.endpoint_code.specs.declared.endpoints.Process.{Process}
use Rattle.endpoint_code.specs.declared.endpoints.Endpoints.{Endpoints}
use Rattle.endpoint_code.specs.Faults.{is_among, AreDistinct, IsScoped, AreApart, IsServed, has_service, begins_with_call, HasNoNameFault, HasNoCallFault, IsFaultless}
use Rattle.endpoint_code.specs.Network.{channel_of, procedure_of as unit_of, node_at}
use Rattle.endpoint_code.specs.Trees.{code_at}
use Rattle.well_formed.specs.Guarded.{IsGuardedFor}
use Rattle.well_formed.specs.WellFormed.{AreDistinctRoles}
use Rattle.delegation.specs.Checks.{all_differ}
use Rattle.typing_rules.specs.Guarded.{IsGuarded}
use Rattle.typed_sources.specs.Laws.{IsAccepted}
use Rattle.typed_sources.proofs.Accepted.{procedures_keep}
use Rattle.typed_sources.proofs.WellFormedFiles.{each_first, params_apart}
use Rattle.typed_sources.proofs.Guards.{all_guarded}
use Rattle.typed_sources.proofs.Roles.{back_apart}
use Rattle.projection.specs.Codes.{sessions_for}
use Rattle.projection.specs.Projects.{Projects, starts_of, body_at, is_some_start, started_services, channel_from, names_of, parameters_of, service_roles, IsProcedureOf, IsServiceOf, IsProcessOf}
use Rattle.accepted_files.specs.Premises.{EachGuarded}
use Rattle.accepted_files.proofs.FromProjects.{has_units}
use Rattle.accepted_files.proofs.NoCall.{no_call_first}
use Rattle.accepted_files.proofs.Units.{HasUnits}
use Rattle.merged_codes.specs.Scoped.{IsScopedCode}
use Rattle.merged_codes.proofs.ScopedTables.{tree_tells}
use Rattle.accepted_files.proofs.Codes.{code_scoped}
use Rattle.accepted_files.proofs.Services.{service_scoped}
use Rattle.accepted_files.proofs.Names.{distinct_names, distinct_roles}
use Rattle.accepted_files.proofs.Lists.{zip_all, append_all, each_all, map_all, filter_all, filter_passed, both_all, change, each_param, filter_distinct, sessions_distinct, channel_names, pairs_apart, HasNames, units_apart, each_found, roles_apart, HasRole, services_single, IsProvided, all_provided, provided_by, IsServedIn, all_served}
use Rattle.accepted_files.proofs.Heads.{listing}
use Rattle.accepted_files.proofs.Files.{among_those, processes_differ, procs_differ, services_differ, roles_once, main_uses, body_uses, all_use}

-- ---- units by their names

-- what holds of a channel's name holds of it with each service role
role_all : (P : NameId → Type 0) (ss : List Service) → AllByRecursion (λ s. P s.name.name) ss → AllByRecursion (λ a. P a.0) (service_roles ss)
role_all P [] h = tt
role_all P (s ∷ ss) h = append_all (λ a. P a.0) (map (λ w. (s.name.name, w.name)) s.serve) (service_roles ss) (along s.serve) (role_all P ss h.1)
  where
    along : (ws : List Written) → AllByRecursion (λ (a : NameId × NameId). P a.0) (map (λ w. (s.name.name, w.name)) ws)
    along [] = tt
    along (w ∷ ws) = (h.0, along ws)

process_names : (f : File) (e : Endpoints) (ws : List Written) (qs : List Process) → AllZip (IsProcessOf f e) ws qs → map (λ q. q.name) qs ≡ names_in ws
process_names f e [] [] z = refl
process_names f e [] (q ∷ qs) z = absurd z
process_names f e (w ∷ ws) [] z = absurd z
process_names f e (w ∷ ws) (q ∷ qs) z = ap (λ x. x ∷ map (λ q. q.name) qs) z.0.name ∙ ap (λ l. w.name ∷ l) (process_names f e ws qs z.1)

unit_names : (f : File) (e : Endpoints) (zs : List (Proc × ProcParam)) (qs : List Procedure) → AllZip (IsProcedureOf f e) zs qs → AllZip HasNames zs qs
unit_names f e [] [] z = tt
unit_names f e [] (q ∷ qs) z = absurd z
unit_names f e (x ∷ xs) [] z = absurd z
unit_names f e (x ∷ xs) (q ∷ qs) z = (record { name = z.0.name; param = z.0.param }, unit_names f e xs qs z.1)

service_names : (f : File) (e : Endpoints) (zs : List (NameId × NameId)) (qs : List ServiceCode) → AllZip (IsServiceOf f e) zs qs → AllZip HasRole zs qs
service_names f e [] [] z = tt
service_names f e [] (q ∷ qs) z = absurd z
service_names f e (x ∷ xs) [] z = absurd z
service_names f e (x ∷ xs) (q ∷ qs) z = (record { channel = z.0.channel; role = z.0.role }, service_names f e xs qs z.1)

-- ---- the whole

module _ (f : File) (words : List (List ℕ)) (ok : IsAccepted f words) (guarded : IsGuarded f) (e : Endpoints) (pr : Projects f e) where
  -- ---- channels

  abbrev started : List Service
  started = started_services f

  abbrev is_started : Service → Bool
  is_started s = is_some_start (starts_of f s.name.name)

  names_distinct : AreDistinct (map (λ s. s.name.name) started)
  names_distinct = filter_distinct (λ s. s.name.name) is_started f.services (distinct_names (map (λ s. s.name.name) f.services) (services_differ f words ok))

  roles_distinct : AllByRecursion (λ s. AreDistinctRoles (names_of s.active ++ names_of s.serve)) started
  roles_distinct = filter_all is_started (λ s. AreDistinctRoles (names_of s.active ++ names_of s.serve)) f.services (each_all (λ s. AreDistinctRoles (names_of s.active ++ names_of s.serve)) f.services (roles_once f words ok))

  serve_distinct : AllByRecursion (λ s. AreDistinct (names_of s.serve)) started
  serve_distinct = change (λ s. AreDistinctRoles (names_of s.active ++ names_of s.serve)) (λ s. AreDistinct (names_of s.serve)) started (λ s h. distinct_roles (names_of s.serve) (back_apart (names_of s.active) (names_of s.serve) h)) roles_distinct

  -- ---- bodies

  units : HasUnits e f.procs f.tree.nodes
  units = has_units f e pr

  -- ---- units

  abbrev Inside : CodeId → Type 0
  Inside id = id.0 < length e.code.nodes

  params_there : AllByRecursion (λ z. Contains f.procs z.0 × Contains z.0.params z.1) (parameters_of f.procs)
  params_there = each_param (λ z. Contains f.procs z.0 × Contains z.0.params z.1) f.procs (λ h m q i. (m, i))

  procedure_bodies : AllByRecursion (λ q. IsScoped e q.body q.sessions) e.procedures
  procedure_bodies =
      zip_all (IsProcedureOf f e) (λ z. Contains f.procs z.0 × Contains z.0.params z.1) (λ q. Inside q.body) (λ q. IsScoped e q.body q.sessions) (parameters_of f.procs) e.procedures pr.procedures params_there
      (recursion_from_All (λ q. Inside q.body) e.procedures e.inside.in_procedures) one
    where
      one : (z : Proc × ProcParam) (q : Procedure) → IsProcedureOf f e z q → Contains f.procs z.0 × Contains z.0.params z.1 → Inside q.body → IsScoped e q.body q.sessions
      one z q x m l =
          subst (IsScoped e q.body) (sym x.sessions)
          (tree_tells e q.body (sessions_for z.1.name.name z.0.sessions) l
          (code_scoped e f.procs f.tree.nodes units z.1.name.name (body_at f z.0.body) (code_at e.code.nodes q.body) x.body (listing z.1.name.name z.0) (sessions_for z.1.name.name z.0.sessions) (λ y. refl) (body_uses f words ok e pr z.0 m.0 z.1 m.1)))

  process_bodies : AllByRecursion (λ p. IsScoped e p.body []) e.processes
  process_bodies =
      zip_all (IsProcessOf f e) (λ w. is_in (names_in f.processes) w.name ≡ true) (λ q. Inside q.body) (λ q. IsScoped e q.body []) f.processes e.processes pr.processes
      (each_all (λ w. is_in (names_in f.processes) w.name ≡ true) f.processes (λ w m. among_those (λ z. z) f.processes w m))
      (recursion_from_All (λ q. Inside q.body) e.processes e.inside.in_processes)
      (λ w q x m l. tree_tells e q.body [] l (code_scoped e f.procs f.tree.nodes units w.name (body_at f f.body) (code_at e.code.nodes q.body) x.body (λ y. false) [] (λ y. refl) (main_uses f words ok e pr w.name m)))

  -- a channel that is started
  abbrev IsStarted : NameId → Type 0
  IsStarted a = (is_in (channels_of f) a ≡ true) × (is_some_start (starts_of f a) ≡ true)

  all_started : AllByRecursion (λ s. IsStarted s.name.name) started
  all_started =
      both_all (λ s. is_in (channels_of f) s.name.name ≡ true) (λ s. is_some_start (starts_of f s.name.name) ≡ true) started
      (filter_all is_started (λ s. is_in (channels_of f) s.name.name ≡ true) f.services (each_all (λ s. is_in (channels_of f) s.name.name ≡ true) f.services (λ s m. among_those (λ z. z.name) f.services s m))) (filter_passed is_started f.services)

  service_bodies : AllByRecursion (λ s. IsScoped e s.body (s.channel ∷ [])) e.services
  service_bodies =
      zip_all (IsServiceOf f e) (λ a. IsStarted a.0) (λ s. Inside s.body) (λ s. IsScoped e s.body (s.channel ∷ [])) (service_roles started) e.services pr.services (role_all IsStarted started all_started)
      (recursion_from_All (λ s. Inside s.body) e.services e.inside.in_services)
      (λ a s x m l. tree_tells e s.body (s.channel ∷ []) l
      (subst (λ c. IsScopedCode e (c ∷ []) (code_at e.code.nodes s.body)) (sym x.channel) (service_scoped f e units a.0 a.1 (starts_of f a.0) (code_at e.code.nodes s.body) m.1 (all_use f words ok e pr a.0 m.0) x.body)))

  served : AllByRecursion (IsServed e) e.services
  served =
      zip_all (IsServiceOf f e) (IsServedIn (map channel_from started)) (λ s. Inside s.body) (IsServed e) (service_roles started) e.services pr.services (all_served started names_distinct)
      (recursion_from_All (λ s. Inside s.body) e.services e.inside.in_services)
      (λ a s x m l. (m.channel, ap (λ ks. channel_of ks s.channel) pr.channels ∙ ap (channel_of (map channel_from started)) x.channel ∙ m.found, ap (λ r. is_among r m.channel.serve) x.role ∙ m.role))

  units_differ : AreApart e.procedures
  units_differ =
      units_apart (parameters_of f.procs) e.procedures (unit_names f e (parameters_of f.procs) e.procedures pr.procedures)
      (pairs_apart f.procs (procs_differ f words ok) (each_all (λ h. all_differ (map (λ q. q.name.name) h.params) ≡ true) f.procs (params_apart f words ok)))

  unit_sessions : AllByRecursion (λ q. AreDistinct q.sessions) e.procedures
  unit_sessions =
      zip_all (IsProcedureOf f e) (λ z. Contains f.procs z.0 × Contains z.0.params z.1) (λ q. Inside q.body) (λ q. AreDistinct q.sessions) (parameters_of f.procs) e.procedures pr.procedures params_there
      (recursion_from_All (λ q. Inside q.body) e.procedures e.inside.in_procedures)
      (λ z q x m l. subst AreDistinct (sym x.sessions) (sessions_distinct z.1.name.name z.0.sessions (distinct_names (map (λ k. k.name.name) z.0.sessions) (proper z.0 m.0))))
    where
      proper : (h : Proc) → Contains f.procs h → all_differ (map (λ k. k.name.name) h.sessions) ≡ true
      proper h m = let keep = procedures_keep f words ok.names ok.protocols ok.types in (keep.proper h.name.name h (each_first f words ok h m)).sessions

  provided : All (λ k. All (λ r. has_service k.name r e.services ≡ true) k.serve) e.channels
  provided =
      subst (All (λ (k : Channel). All (λ r. has_service k.name r e.services ≡ true) k.serve)) (sym pr.channels)
      (All-from_recursion (λ (k : Channel). All (λ r. has_service k.name r e.services ≡ true) k.serve) (map channel_from started)
      (map_all channel_from (λ (k : Channel). All (λ r. has_service k.name r e.services ≡ true) k.serve) started
      (change (IsProvided (service_roles started)) (λ s. All (λ r. has_service s.name.name r e.services ≡ true) (names_of s.serve)) started
      (λ s h. All-from_recursion (λ r. has_service s.name.name r e.services ≡ true) (names_of s.serve) (provided_by (service_roles started) e.services (service_names f e (service_roles started) e.services pr.services) s h)) (all_provided started))))

  names : HasNoNameFault e
  names = record {
    channels = subst (λ (ks : List Channel). AreDistinct (map (λ k. k.name) ks)) (sym pr.channels) (subst AreDistinct (sym (channel_names started)) names_distinct);
    roles = subst (All (λ (k : Channel). AreDistinct (k.active ++ k.serve))) (sym pr.channels)
        (All-from_recursion (λ (k : Channel). AreDistinct (k.active ++ k.serve)) (map channel_from started)
        (map_all channel_from (λ (k : Channel). AreDistinct (k.active ++ k.serve)) started
        (change (λ s. AreDistinctRoles (names_of s.active ++ names_of s.serve)) (λ s. AreDistinct (names_of s.active ++ names_of s.serve)) started (λ s h. distinct_roles (names_of s.active ++ names_of s.serve) h) roles_distinct)));
    processes = subst AreDistinct (sym (process_names f e f.processes e.processes pr.processes)) (distinct_names (names_in f.processes) (processes_differ f words ok));
    procedures = units_differ;
    sessions = All-from_recursion (λ q. AreDistinct q.sessions) e.procedures unit_sessions;
    services = services_single (service_roles started) e.services (service_names f e (service_roles started) e.services pr.services) (roles_apart started names_distinct serve_distinct);
    served = All-from_recursion (IsServed e) e.services served;
    provided = provided;
    procedure_bodies = All-from_recursion (λ q. IsScoped e q.body q.sessions) e.procedures procedure_bodies;
    service_bodies = All-from_recursion (λ s. IsScoped e s.body (s.channel ∷ [])) e.services service_bodies;
    process_bodies = All-from_recursion (λ p. IsScoped e p.body []) e.processes process_bodies;
  }

  -- ---- calls

  each_guarded : EachGuarded f
  each_guarded = each_param (λ z. IsGuardedFor (Named z.1.name.name.0 0) (body_at f z.0.body)) f.procs (λ p m q i. all_guarded f words ok guarded p m q i)

  calls : HasNoCallFault e
  calls =
      All-from_recursion (λ q. begins_with_call (node_at e q.body) ≡ false) e.procedures
      (change (λ q. unit_of e.procedures q.name q.param ≡ Some q) (λ q. begins_with_call (node_at e q.body) ≡ false) e.procedures (λ q h. no_call_first f e pr each_guarded q.name q.param q h) (each_found e.procedures units_differ))

  -- It has no fault of names and calls
  pub is_faultless : IsFaultless e
  is_faultless = record { names = names; calls = calls }
