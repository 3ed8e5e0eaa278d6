-- The choreography of a block without fault is well formed.
use Rattle.std.proofs.Common.{◌≡◌, List, [], ◌∷◌, ◌++◌, map, refl, sym, ap, ◌∙◌, subst, Some, None, Option, Bool, true, false, ◌==◌, ◌&&◌, inl, inr}
use Rattle.std.specs.Prelude.{not, is_some}
use Rattle.std.specs.List.{list_all}
use Rattle.std.proofs.lemmas.Bool.{and_parts}
use Rattle.chor_base.specs.declared.names.NameId.{NameId}
use Rattle.chor_base.specs.declared.rule.Place.{Place}
use Rattle.chor_base.specs.declared.rule.Rule.TheVariants.{N3, T3, T4, T6, T7, T9}
use Rattle.chor_base.specs.declared.value.Sort.{Sort}
use Rattle.chor_base.specs.declared.value.Sort.TheVariants as sort
use Rattle.chor_base.specs.Expr.{Term}
use Rattle.chor_tree.specs.declared.file.File.{File}
use Rattle.chor_tree.specs.declared.file.Named.{Named as Written}
use Rattle.chor_tree.specs.declared.file.Service.{Service}
use Rattle.chor_tree.specs.declared.protocol.ProtoArm.{ProtoArm}
use Rattle.chor_tree.specs.declared.protocol.ProtoStep.{ProtoStep}
use Rattle.chor_tree.specs.declared.tree.Part.{Part}
use Rattle.chor_tree.specs.Names.{Scope, is_among, names_in, are_same, wrong_parts, channel_of, procedure_of}
use Rattle.chor_tree.specs.Source.{Statement, Starts, Sends, Selects, Gives, Sets, Asks, Shows, Block, Then, Either, Calls, Ends, nowhere}
use Rattle.chor_semantics.specs.Choreography.{Named, ref_eq, Content, OfValue, OfLabel, OfPart}
use Rattle.chor_semantics.specs.Sources.{name_ref, parts_of, served_of, procedure_from, procedures_of}
use Rattle.endpoint_code.specs.declared.endpoints.Channel.{Channel}
use Rattle.global_types.specs.Moves.{Exchange as Move, IsIn as IsMove, plain, endpoint, passes, chooses, exchanges_of}
use Rattle.well_formed.specs.WellFormed.{Scope as RunScope, IsProcess, IsSession as IsSessionThere, AllIn, AreDistinctRefs, scope_after as run_scope_after, ContentFits, StartFits, CommunicationFits, NodeFits, CallFits, IsWellFormed, IsPlainTerm}
use Rattle.well_formed.proofs.References.{same_ref, clash, true_eq}
use Rattle.delegation.specs.Owners.{holds}
use Rattle.delegation.specs.Checks.{ask, first_failed, all_differ}
use Rattle.typing_rules.specs.declared.allowed.EndpointType.{EndpointType}
use Rattle.typing_rules.specs.Environment.{Environment, step_at}
use Rattle.typing_rules.specs.Allowed.{value_sent, labels_sent, arm_of, endpoint_sent}
use Rattle.typing_rules.specs.Checks.{has_sort, is_sort, sort_at, value_checks, label_checks, endpoint_checks, rest_ended, arguments_fit, statement_checks, rule_at}
use Rattle.typing_rules.specs.After.{after_statement}
use Rattle.typed_sources.proofs.Checked.{first_passes, asked, holder_is, has_step, value_allowed, label_allowed, endpoint_allowed}
use Rattle.typed_sources.proofs.Moved.{at_is}
use Rattle.typed_sources.proofs.Statements.{ProtocolsFit, is_own}
use Rattle.typed_sources.proofs.Opened.{IsNamedStart}
use Rattle.chor_semantics.specs.Blocks.{node_of, choreography_of}
use Rattle.typed_sources.proofs.Sources.{IsIn, NamesKept, IsNamedCall, IsFaultless, scope_with, named_same}
use Rattle.typed_sources.proofs.ProcedureHeads.{no_fault_at, not_true}
use Rattle.typed_sources.proofs.Owned.{KeepsOwners, two_parties, statement_owned}
use Rattle.typed_sources.proofs.Channels.{channel_from, channels_from, AreWanted, channel_there}
use Rattle.typed_sources.proofs.References.{distinct_refs, all_in, refs_same, firsts_same, roles_same, served_roles, list_of, length_map, front_differ}
use Rattle.typed_sources.proofs.Named.{IsNewStart, IsSession, SessionsKept, AreNamed}
use Rattle.typed_sources.proofs.Sorted.{plain_checked}
use Rattle.typed_sources.proofs.BlockScopes.{Alike, alike_after, none_of, all_new, same_names}

module _ (f : File) (good : ProtocolsFit f) (wanted : Service → Bool) where
  abbrev ks : List Channel
  ks = channels_from wanted f

  -- ---- communications

  role_off : (e : Environment) (k : NameId) (x : Move) (m : NameId) (step : ProtoStep) → step_at f e k ≡ Some step → IsMove (x, m) (exchanges_of step) → is_own x ≡ false
  role_off e k x m step i here =
      let st = has_step f e k step i in
      good.away st.standing.protocol st.standing.state m st.state x st.here (subst (λ z. IsMove (x, m) (exchanges_of z)) (sym st.step_is) here)

  apart : (scope : Scope) (e : Environment) → KeepsOwners scope e → (k a b p q : NameId) → holds e.owners k a p ≡ true → holds e.owners k b q ≡ true → (a.0 == b.0) ≡ false → ref_eq (Named p.0 0) (Named q.0 0) ≡ false
  apart scope e t k a b p q h i off = go (ref_eq (Named p.0 0) (Named q.0 0)) refl
    where
      go : (x : Bool) → ref_eq (Named p.0 0) (Named q.0 0) ≡ x → ref_eq (Named p.0 0) (Named q.0 0) ≡ false
      go false s = s
      go true s =
          let same : p ≡ q = at_is p q (same_ref (Named p.0 0) (Named q.0 0) s) in
          let role : a ≡ b = t.one_role k a b q (holder_is e.owners k a p h ∙ ap Some same) (holder_is e.owners k b q i) in
          absurd (clash (ap (λ x. x.0 == b.0) role ∙ true_eq b.0) off)

  module _ (scope : Scope) (e : Environment) (t : KeepsOwners scope e) (sc : RunScope) (al : Alike sc scope) where
    in_process : (p : Written) → IsIn scope p → IsProcess sc (name_ref p)
    in_process p h = al.processes p.name.0 ∙ h

    in_session : (k : Written) → IsSession scope k → IsSessionThere sc (name_ref k)
    in_session k h = al.sessions k.name.0 ∙ h

    communicates : (a b : Part) (k : Written) (w : Content) → holds e.owners k.name a.role.name a.process.name ≡ true → holds e.owners k.name b.role.name b.process.name ≡ true → (a.role.name.0 == b.role.name.0) ≡ false
        → IsIn scope a.process × IsIn scope b.process → IsSession scope k → ContentFits sc w → CommunicationFits sc (name_ref k) (name_ref a.process) (name_ref b.process) w
    communicates a b k w ha hb off i m cf = record {
      session = in_session k m;
      sender = in_process a.process i.0;
      receiver = in_process b.process i.1;
      differ = apart scope e t k.name a.role.name b.role.name a.process.name b.process.name ha hb off;
      content = cf;
    }

    value_fits : (a b : Part) (x : Term) (y : NameId) (k : Written) → IsIn scope a.process × IsIn scope b.process → IsSession scope k → first_failed (statement_checks f e (Sends a x b y k)) ≡ None
        → CommunicationFits sc (name_ref k) (name_ref a.process) (name_ref b.process) (OfValue x y)
    value_fits a b x y k i m h =
        let w = two_parties e k a b (value_checks (value_sent a.role.name b.role.name (step_at f e k.name)) (sort_at e a.process x)) h in
        let g = go (value_sent a.role.name b.role.name (step_at f e k.name)) refl w.2 in
        communicates a b k (OfValue x y) w.0 w.1 g.0 i m g.1
      where
        go : (o : Option (Sort × NameId)) → value_sent a.role.name b.role.name (step_at f e k.name) ≡ o → first_failed (value_checks o (sort_at e a.process x)) ≡ None → ((a.role.name.0 == b.role.name.0) ≡ false) × ContentFits sc (OfValue x y)
        go None i j = absurd cc
        go (Some (s, m)) i j =
            let v0 = first_passes (has_sort (sort_at e a.process x)) (ask (is_sort s (sort_at e a.process x)) T3 ∷ []) j in
            let may = value_allowed a.role.name b.role.name (step_at f e k.name) s m i in
            (role_off e k.name (passes a.role.name b.role.name (plain s)) m may.0 may.1 may.2, plain_checked x (e.sorts a.process.name) v0.0)

    label_fits : (a b : Part) (k : Written) (l : NameId) → IsIn scope a.process × IsIn scope b.process → IsSession scope k → first_failed (statement_checks f e (Selects a b k l)) ≡ None
        → CommunicationFits sc (name_ref k) (name_ref a.process) (name_ref b.process) (OfLabel l)
    label_fits a b k l i m h =
        let w = two_parties e k a b (label_checks (labels_sent a.role.name b.role.name (step_at f e k.name)) l) h in
        communicates a b k (OfLabel l) w.0 w.1 (go (labels_sent a.role.name b.role.name (step_at f e k.name)) refl w.2) i m tt
      where
        arm : (arms : List ProtoArm) → labels_sent a.role.name b.role.name (step_at f e k.name) ≡ Some arms → (o : Option NameId) → arm_of arms l ≡ o → is_some o ≡ true → (a.role.name.0 == b.role.name.0) ≡ false
        arm arms i None j s = absurd cc
        arm arms i (Some m) j s =
            let may = label_allowed a.role.name b.role.name (step_at f e k.name) arms l m i j in
            role_off e k.name (chooses a.role.name b.role.name l) m may.0 may.1 may.2

        go : (o : Option (List ProtoArm)) → labels_sent a.role.name b.role.name (step_at f e k.name) ≡ o → first_failed (label_checks o l) ≡ None → (a.role.name.0 == b.role.name.0) ≡ false
        go None i j = absurd cc
        go (Some arms) i j = arm arms i (arm_of arms l) refl (asked (is_some (arm_of arms l)) T4 (first_passes (ask (is_some (arm_of arms l)) T4) [] j).0)

    give_fits : (a b : Part) (k : Written) (given : Part) → IsIn scope a.process × IsIn scope b.process → IsSession scope k × IsSession scope given.process → first_failed (statement_checks f e (Gives a b k given)) ≡ None
        → CommunicationFits sc (name_ref k) (name_ref a.process) (name_ref b.process) (OfPart (name_ref given.process) given.role.name)
    give_fits a b k given i m h =
        let w = two_parties e k a b (endpoint_checks e a b given (endpoint_sent a.role.name b.role.name (step_at f e k.name))) h in
        communicates a b k (OfPart (name_ref given.process) given.role.name) w.0 w.1 (go (endpoint_sent a.role.name b.role.name (step_at f e k.name)) refl w.2) i m.0 (in_session given.process m.1)
      where
        go : (o : Option (EndpointType × NameId)) → endpoint_sent a.role.name b.role.name (step_at f e k.name) ≡ o → first_failed (endpoint_checks e a b given o) ≡ None → (a.role.name.0 == b.role.name.0) ≡ false
        go None i j = absurd cc
        go (Some (u, m)) i j =
            let may = endpoint_allowed a.role.name b.role.name (step_at f e k.name) u m i in
            role_off e k.name (passes a.role.name b.role.name (endpoint u.protocol u.state u.role)) m may.0 may.1 may.2

    -- ---- starts

    start_fits : (c k : Written) (active serve : List Part) → IsNamedStart f scope e c.name k.name active serve → IsNewStart f scope c k active serve → first_failed (statement_checks f e (Starts c k active serve)) ≡ None
        → ((s : Service) → channel_of f c.name ≡ Some s → wanted s ≡ true)
        → StartFits ks sc c.name 0 k.name.0 (parts_of active) (served_of serve)
    start_fits c k active serve w m h want = record {
      channel = channel_from w.service;
      declared = channel_there wanted f.services c.name w.service w.is_channel (want w.service w.is_channel);
      active_roles = roles_same active ∙ same_names (map (λ q. q.role.name) active) (names_in w.service.active) parts.0;
      service_roles = served_roles serve ∙ same_names (map (λ q. q.role.name) serve) (names_in w.service.serve) parts.1;
      known = subst (AllIn sc.pid sc.processes) (sym (firsts_same active)) (all_in sc.pid sc.processes scope.processes al.processes (map (λ q. q.process.name) active) (list_of (λ q. q.process.name) scope.processes active w.known));
      apart = subst AreDistinctRefs (sym (firsts_same active)) (distinct_refs (map (λ q. q.process.name) active) (front_differ (map (λ q. q.process.name) active) (map (λ q. q.process.name) serve) (subst (λ l. all_differ l ≡ true) (map_append active serve) differ)));
      new_processes = all_new scope.processes serve sc.processes w.new (λ x i. al.processes x.0 ∙ none_of scope.processes serve w.new x i);
      new_session = al.sessions k.name.0 ∙ m.new;
    }
      where
        parts : (are_same (map (λ q. q.role.name) active) (names_in w.service.active) ≡ true) × (are_same (map (λ q. q.role.name) serve) (names_in w.service.serve) ≡ true)
        parts = and_parts _ _ (not_true _ (no_fault_at (not (are_same (map (λ q. q.role.name) active) (names_in w.service.active) && are_same (map (λ q. q.role.name) serve) (names_in w.service.serve))) N3 c
            (subst (λ o. wrong_parts o c active serve ≡ []) w.is_channel m.parts)))

        differ : all_differ (map (λ q. q.process.name) (active ++ serve)) ≡ true
        differ = asked (all_differ (map (λ q. q.process.name) (active ++ serve))) T9 (first_passes (ask (all_differ (map (λ q. q.process.name) (active ++ serve))) T9) [] h).0

        map_append : (xs ys : List Part) → map (λ q. q.process.name) (xs ++ ys) ≡ map (λ q. q.process.name) xs ++ map (λ q. q.process.name) ys
        map_append [] ys = refl
        map_append (x ∷ xs) ys = ap (λ l. x.process.name ∷ l) (map_append xs ys)

    -- ---- statements and calls

    asks_fit : (p : Written) (y : NameId) (g : Written) (x z : Term) → IsIn scope p → first_failed (statement_checks f e (Asks p y g x z)) ≡ None → NodeFits ks sc (node_of (Asks p y g x z))
    asks_fit p y g x z w h =
        let s = sort_at e p x in
        let u = sort_at e p z in
        let v0 = first_passes (has_sort s) (has_sort u ∷ ask (is_sort sort.Int s && is_sort sort.Int u) T3 ∷ []) h in
        let v1 = first_passes (has_sort u) (ask (is_sort sort.Int s && is_sort sort.Int u) T3 ∷ []) v0.1 in
        (in_process p w, (plain_checked x (e.sorts p.name) v0.0, plain_checked z (e.sorts p.name) v1.0))

    statement_fits : (s : Statement) → NamesKept f scope e s → SessionsKept f scope s → first_failed (statement_checks f e s) ≡ None → (next : Block) → AreWanted wanted f (choreography_of (Then nowhere s next)) → NodeFits ks sc (node_of s)
    statement_fits (Starts c k active serve) w m h next want = start_fits c k active serve w m h (λ s i. want c.name s (inl refl) i)
    statement_fits (Sends a x b y k) w m h next want = value_fits a b x y k w m h
    statement_fits (Selects a b k l) w m h next want = label_fits a b k l w m h
    statement_fits (Gives a b k given) w m h next want = give_fits a b k given w m h
    statement_fits (Sets p y x) w m h next want = (in_process p w, plain_checked x (e.sorts p.name) (first_passes (has_sort (sort_at e p x)) [] h).0)
    statement_fits (Asks p y g x z) w m h next want = asks_fit p y g x z w h
    statement_fits (Shows p x) w m h next want = (in_process p w, plain_checked x (e.sorts p.name) (first_passes (has_sort (sort_at e p x)) [] h).0)

    tested : (place : Place) (p : Written) (x : Term) (first second : Block) → IsIn scope p → rule_at f e (Either place p x first second) ≡ None → IsProcess sc (name_ref p) × IsPlainTerm x
    tested place p x first second w h = (in_process p w, plain_checked x (e.sorts p.name) (first_passes (has_sort (sort_at e p x)) (ask (is_sort sort.Bool (sort_at e p x)) T3 ∷ []) h).0)

    call_fits : (place : Place) (g : Written) (ps kk : List Written) → IsNamedCall f scope g ps kk → list_all (λ x. is_among scope.sessions x.name) kk ≡ true → rule_at f e (Calls place g ps kk) ≡ None
        → CallFits (procedures_of f) sc g.name 0 (map name_ref ps) (map name_ref kk)
    call_fits place g ps kk w m h = record {
      procedure = procedure_from f.tree.nodes w.procedure;
      declared = named_same f good f.tree.nodes f.procs g.name w.procedure w.is;
      processes = subst (AllIn sc.pid sc.processes) (sym (refs_same ps)) (all_in sc.pid sc.processes scope.processes al.processes (names_in ps) (list_of (λ x. x.name) scope.processes ps w.known));
      sessions = subst (AllIn sc.sid sc.sessions) (sym (refs_same kk)) (all_in sc.sid sc.sessions scope.sessions al.sessions (names_in kk) (list_of (λ x. x.name) scope.sessions kk m));
      process_count = length_map name_ref ps ∙ w.many ∙ sym (length_map (λ q. q.name.name) w.procedure.params);
      session_count = length_map name_ref kk ∙ w.many_sessions ∙ sym (length_map (λ q. q.name.name) w.procedure.sessions);
      processes_apart = subst AreDistinctRefs (sym (refs_same ps)) (distinct_refs (names_in ps) differ.0);
      sessions_apart = subst AreDistinctRefs (sym (refs_same kk)) (distinct_refs (names_in kk) differ.1);
      processes_above = al.no_deeper_processes;
      sessions_above = al.no_deeper_sessions;
    }
      where
        differ : (all_differ (names_in ps) ≡ true) × (all_differ (names_in kk) ≡ true)
        differ = and_parts _ _ (asked (all_differ (names_in ps) && all_differ (names_in kk)) T7
            (first_passes (ask (all_differ (names_in ps) && all_differ (names_in kk)) T7) (arguments_fit e (procedure_of f g.name) ps kk ++ ask (rest_ended f e (names_in kk)) T6 ∷ []) h).0)

  -- ---- blocks

  -- The choreography of a block without fault is well formed
  pub block_fits : (b : Block) (scope : Scope) (e : Environment) → IsFaultless f scope e b → AreNamed f scope b → KeepsOwners scope e → (sc : RunScope) → Alike sc scope → AreWanted wanted f (choreography_of b)
      → IsWellFormed ks (procedures_of f) sc (choreography_of b)
  block_fits (Then place s next) scope e (names, rule, rest) m t sc al want = (
    statement_fits scope e t sc al s names m.0 rule next want,
    block_fits next (scope_with scope s) (after_statement f e s) rest m.1 (statement_owned f scope e t s names rule).keeps (run_scope_after sc (node_of s)) (alike_after sc scope al s) (λ c z i. want c z (inr i)),
  )
  block_fits (Either place p x first second) scope e (names, rule, one, other) m t sc al want = (
    tested scope e t sc al place p x first second names rule,
    block_fits first scope e one m.0 t sc al (λ c z i. want c z (inl i)),
    block_fits second scope e other m.1 t sc al (λ c z i. want c z (inr i)),
  )
  block_fits (Calls place g ps kk) scope e (w, rule) m t sc al want = call_fits scope e t sc al place g ps kk w m rule
  block_fits (Ends place) scope e rule m t sc al want = tt
