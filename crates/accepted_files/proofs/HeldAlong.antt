-- Along a block without fault a process uses the sessions in which it holds a role.
use Rattle.std.proofs.Common.{◌≡◌, List, [], ◌∷◌, ◌++◌, map, length, refl, sym, ap, ◌∙◌, subst, inl, inr, suc, Some, None, Option, Bool, true, false, if◌then◌else◌, ◌==◌, ◌&&◌}
use Rattle.std.specs.Prelude.{Result, Ok, Err}
use Rattle.std.proofs.lemmas.Bool.{and_parts}
use Rattle.chor_base.specs.declared.names.NameId.{NameId}
use Rattle.chor_base.specs.declared.rule.Place.{Place}
use Rattle.chor_base.specs.declared.rule.Rule.{Rule}
use Rattle.chor_base.specs.declared.rule.Rule.TheVariants.{T6, T7, T9}
use Rattle.chor_base.specs.declared.value.Sort.{Sort}
use Rattle.chor_tree.specs.declared.file.File.{File}
use Rattle.chor_tree.specs.declared.file.Named.{Named as Written}
use Rattle.chor_tree.specs.declared.file.Proc.{Proc}
use Rattle.chor_tree.specs.declared.file.ProcParam.{ProcParam}
use Rattle.chor_tree.specs.declared.file.SessionParam.{SessionParam}
use Rattle.chor_tree.specs.declared.tree.Part.{Part}
use Rattle.chor_tree.specs.Names.{Scope, is_among as is_in, names_in, procedure_of}
use Rattle.chor_tree.specs.Source.{Statement, Starts, Sends, Selects, Gives, Sets, Asks, Shows, Block, Then, Either, Calls, Ends}
use Rattle.chor_semantics.specs.Choreography as chor
use Rattle.chor_semantics.specs.Choreography.{Content, OfValue, OfLabel, OfPart, Choreography}
use Rattle.chor_semantics.specs.Sources.{name_ref, parts_of}
use Rattle.endpoint_code.specs.declared.endpoints.Endpoints.{Endpoints}
use Rattle.endpoint_code.specs.Faults.{is_among, AreDistinct, IsActive}
use Rattle.well_formed.proofs.References.{same_name, clash}
use Rattle.delegation.specs.declared.held.Held.{Held as Entry}
use Rattle.delegation.specs.Owners.{holder_of, holds, started, passed}
use Rattle.delegation.specs.Checks.{ask, all_differ, first_failed}
use Rattle.typing_rules.specs.declared.allowed.EndpointType.{EndpointType}
use Rattle.typing_rules.specs.Environment.{Environment, step_at}
use Rattle.typing_rules.specs.Allowed.{value_sent, labels_sent, arm_in, endpoint_sent}
use Rattle.typing_rules.specs.Checks.{sort_at, value_checks, label_checks, endpoint_checks, statement_checks, holds_as, sessions_fit, arguments_fit, rest_ended, rule_at}
use Rattle.typing_rules.specs.After.{with_value, with_state, with_endpoint, with_sort, after_statement}
use Rattle.typed_sources.proofs.Checked.{first_passes, asked, holder_is}
use Rattle.typed_sources.proofs.Opened.{IsNamedStart, eq_flip, holder_other, holder_new}
use Rattle.chor_semantics.specs.Blocks.{node_of, choreography_of}
use Rattle.typed_sources.proofs.Sources.{NamesKept, IsNamedCall, IsFaultless, scope_with}
use Rattle.projection.specs.Codes.{is_named, name_of, role_in, proc_named, param_for}
use Rattle.typed_sources.proofs.Scopes.{among_front}
use Rattle.typed_sources.proofs.Owned.{KeepsOwners, two_parties, GivenFits, given_fits, statement_owned, call_sessions}
use Rattle.typed_sources.proofs.Channels.{channel_from}
use Rattle.typed_sources.proofs.Named.{IsNewStart, SessionsKept, AreNamed}
use Rattle.typed_sources.proofs.BlockScopes.{none_of}
use Rattle.accepted_files.proofs.Parts.{active_role, proc_same, passed_holds, listed_role}
use Rattle.accepted_files.specs.Held.{Held, with_held, GivesHeld, GainsNew, held_after, Exchanges, JoinsNew, HoldsListed, PassesFor, PassesAtCall, UsesHeld}
use Rattle.accepted_files.proofs.Knows.{HasRole, Knows, AreThere, DiffersThere, start_roles, parts_apart}
use Rattle.accepted_files.proofs.HeldPassed.{KnowsPassed, sent, gained, neither, none_held}
use Rattle.accepted_files.proofs.Names.{distinct_names, has_part, front_part, role_there, part_holder}

module _ (ep : Endpoints) (fs : List Proc) (r : NameId) where
  -- what follows a statement, where it knows its sessions
  abbrev Goes : Environment → Choreography → Type 0
  Goes e rest = (g : Held) → Knows r g e → UsesHeld ep fs r rest g

  -- where the holders are the same
  same_known : (g : Held) (e e' : Environment) → e'.owners ≡ e.owners → Knows r g e → Knows r g e'
  same_known g e e' same w = record {
    there = λ k a h. w.there k a (ap (λ hs. holder_of hs k a) (sym same) ∙ h);
    back = λ k h. (let b = w.back k h in record { role = b.role; is = ap (λ hs. holder_of hs k b.role) same ∙ b.is });
  }

  module _ (f : File) (differ : DiffersThere f) (scope : Scope) (e : Environment) (t : KeepsOwners scope e) (here : is_in scope.processes r ≡ true) (g : Held) (knows : Knows r g e) where
    -- it holds a role in a session
    has_role : (k a p : Written) → holds e.owners k.name a.name p.name ≡ true → (r.0 == p.name.0) ≡ true → g k.name.0 ≡ true
    has_role k a p h i = knows.there k.name a.name (holder_is e.owners k.name a.name p.name h ∙ ap Some (sym (same_name r p.name i)))

    no_role : {A : Type 0} (x : A) (o : Option A) → o ≡ None → o ≡ Some x → ⊥
    no_role x o i j = cc

    -- ---- starts

    module _ (c k : Written) (active serve : List Part) (w : IsNamedStart f scope e c.name k.name active serve) (n : IsNewStart f scope c k active serve) (h : first_failed (statement_checks f e (Starts c k active serve)) ≡ None) where
      abbrev now : List Entry
      now = e.owners ++ started k.name (active ++ serve)

      processes_differ : all_differ (map (λ q. q.process.name) (active ++ serve)) ≡ true
      processes_differ = asked (all_differ (map (λ q. q.process.name) (active ++ serve))) T9 (first_passes (ask (all_differ (map (λ q. q.process.name) (active ++ serve))) T9) [] h).0

      off : (b : Bool) → is_in (map (λ q. q.process.name) serve) r ≡ b → is_in (map (λ q. q.process.name) serve) r ≡ false
      off false i = i
      off true i = absurd (clash here (none_of scope.processes serve w.new r i))

      -- it has the role of the new session that it holds
      joins_as : (s a : NameId) → (k.name.0 == s.0) ≡ true → holder_of now s a ≡ Some r → role_in r (parts_of active) ≡ Some a
      joins_as s a i j =
          active_role k.name r active serve processes_differ (off (is_in (map (λ q. q.process.name) serve) r) refl) a
          (sym (holder_new e.owners k.name (active ++ serve) a (t.held k.name a w.free)) ∙ ap (λ x. holder_of now x a) (same_name k.name s i) ∙ j)

      -- it held none in the new session
      none_new : g k.name.0 ≡ false
      none_new = go (g k.name.0) refl
        where
          go : (b : Bool) → g k.name.0 ≡ b → g k.name.0 ≡ false
          go false i = i
          go true i = let b = knows.back k.name i in absurd (no_role r (holder_of e.owners k.name b.role) (t.held k.name b.role w.free) b.is)

      still : (s a : NameId) → (k.name.0 == s.0) ≡ false → holder_of now s a ≡ holder_of e.owners s a
      still s a i = holder_other e.owners k.name (active ++ serve) s a i

      still_back : (s : NameId) → g s.0 ≡ true → HasRole now s r
      still_back s i = go (k.name.0 == s.0) refl
        where
          go : (b : Bool) → (k.name.0 == s.0) ≡ b → HasRole now s r
          go true j = absurd (clash i (ap (λ (z : NameId). g z.0) (sym (same_name k.name s j)) ∙ none_new))
          go false j = let b = knows.back s i in record { role = b.role; is = still s b.role j ∙ b.is }

      knows_out : role_in r (parts_of active) ≡ None → Knows r g (after_statement f e (Starts c k active serve))
      knows_out out = record { there = λ s a i. go s a (k.name.0 == s.0) refl i; back = still_back }
        where
          go : (s a : NameId) (b : Bool) → (k.name.0 == s.0) ≡ b → holder_of now s a ≡ Some r → g s.0 ≡ true
          go s a true j i = absurd (no_role a (role_in r (parts_of active)) out (joins_as s a j i))
          go s a false j i = knows.there s a (sym (still s a j) ∙ i)

      knows_in : (p : NameId) → role_in r (parts_of active) ≡ Some p → Knows r (with_held g k.name.0 true) (after_statement f e (Starts c k active serve))
      knows_in p as_role = record { there = λ s a i. go s a (k.name.0 == s.0) refl i; back = λ s i. back s (k.name.0 == s.0) refl i }
        where
          go : (s a : NameId) (b : Bool) → (k.name.0 == s.0) ≡ b → holder_of now s a ≡ Some r → with_held g k.name.0 true s.0 ≡ true
          go s a true j i = ap (λ (b : Bool). if b then true else g s.0) (eq_flip s.0 k.name.0 ∙ j)
          go s a false j i = ap (λ (b : Bool). if b then true else g s.0) (eq_flip s.0 k.name.0 ∙ j) ∙ knows.there s a (sym (still s a j) ∙ i)

          mine : holder_of now k.name p ≡ Some r
          mine =
              let q = has_part r p active as_role in
              let roles = start_roles f c w.service active serve w.is_channel n.parts in
              holder_new e.owners k.name (active ++ serve) p (t.held k.name p w.free)
              ∙ ap (holder_of (started k.name (active ++ serve)) k.name) (sym q.role)
              ∙ part_holder k.name (active ++ serve) (parts_apart f differ c.name w.service active serve w.is_channel roles) q.part (front_part active serve q.part q.at)
              ∙ ap Some q.process

          back : (s : NameId) (b : Bool) → (k.name.0 == s.0) ≡ b → with_held g k.name.0 true s.0 ≡ true → HasRole now s r
          back s true j i = record { role = p; is = ap (λ x. holder_of now x p) (sym (same_name k.name s j)) ∙ mine }
          back s false j i = still_back s (sym (ap (λ (b : Bool). if b then true else g s.0) (eq_flip s.0 k.name.0 ∙ j)) ∙ i)

      start_uses : (rest : Choreography) → AreThere f ep (chor.Then (node_of (Starts c k active serve)) rest) → Goes (after_statement f e (Starts c k active serve)) rest
          → JoinsNew ep c.name k.name.0 g (role_in r (parts_of active)) (UsesHeld ep fs r rest)
      start_uses rest there more = go (role_in r (parts_of active)) refl
        where
          is_active : (p : NameId) → role_in r (parts_of active) ≡ Some p → IsActive ep c.name p
          is_active p i =
              let q = has_part r p active i in
              let roles = start_roles f c w.service active serve w.is_channel n.parts in (
                channel_from w.service,
                there c.name w.service (inl refl) w.is_channel,
                ap (λ z. is_among z (names_in w.service.active)) (sym q.role) ∙ ap (is_among q.part.role.name) (sym roles.active_roles) ∙ role_there active q.part q.at,
              )

          go : (o : Option NameId) → role_in r (parts_of active) ≡ o → JoinsNew ep c.name k.name.0 g o (UsesHeld ep fs r rest)
          go None i = more g (knows_out i)
          go (Some p) i = (is_active p i, none_new, more (with_held g k.name.0 true) (knows_in p i))

    -- ---- communications

    -- at one that hands nothing over
    plain_part : (a b : Part) (k : Written) (w : Content) (rest : Choreography) (e' : Environment) → e'.owners ≡ e.owners → GivesHeld g w × GainsNew g w × ((b : Bool) → held_after g w b ≡ g)
        → holds e.owners k.name a.role.name a.process.name ≡ true → holds e.owners k.name b.role.name b.process.name ≡ true → Goes e' rest
        → Exchanges (is_named r (name_ref a.process)) (is_named r (name_ref b.process)) g (name_ref k) w (UsesHeld ep fs r rest)
    plain_part a b k w rest e' same p ha hb more = go (r.0 == a.process.name.0) (r.0 == b.process.name.0) refl refl
      where
        on : UsesHeld ep fs r rest g
        on = more g (same_known g e e' same knows)

        go : (x y : Bool) → (r.0 == a.process.name.0) ≡ x → (r.0 == b.process.name.0) ≡ y → Exchanges x y g (name_ref k) w (UsesHeld ep fs r rest)
        go true y i j = (has_role k a.role a.process ha i, p.0, subst (UsesHeld ep fs r rest) (sym (p.2 false)) on)
        go false true i j = (has_role k b.role b.process hb j, p.1, subst (UsesHeld ep fs r rest) (sym (p.2 true)) on)
        go false false i j = on

    -- at one that hands a role over
    given_part : (a b : Part) (k : Written) (given : Part) (rest : Choreography) → first_failed (statement_checks f e (Gives a b k given)) ≡ None → Goes (after_statement f e (Gives a b k given)) rest
        → Exchanges (is_named r (name_ref a.process)) (is_named r (name_ref b.process)) g (name_ref k) (OfPart (name_ref given.process) given.role.name) (UsesHeld ep fs r rest)
    given_part a b k given rest h more = part (endpoint_sent a.role.name b.role.name (step_at f e k.name)) refl w.2
      where
        w : (holds e.owners k.name a.role.name a.process.name ≡ true) × (holds e.owners k.name b.role.name b.process.name ≡ true) × (first_failed (endpoint_checks e a b given (endpoint_sent a.role.name b.role.name (step_at f e k.name))) ≡ None)
        w = two_parties e k a b (endpoint_checks e a b given (endpoint_sent a.role.name b.role.name (step_at f e k.name))) h

        part : (o : Option (EndpointType × NameId)) → endpoint_sent a.role.name b.role.name (step_at f e k.name) ≡ o → first_failed (endpoint_checks e a b given o) ≡ None
            → Exchanges (is_named r (name_ref a.process)) (is_named r (name_ref b.process)) g (name_ref k) (OfPart (name_ref given.process) given.role.name) (UsesHeld ep fs r rest)
        part None i j = absurd cc
        part (Some (u, m)) i j = go (r.0 == a.process.name.0) (r.0 == b.process.name.0) refl refl
          where
            fit : GivenFits e a b given
            fit = given_fits f e a b k given (Some (u, m)) j

            is : holder_of e.owners given.process.name given.role.name ≡ Some a.process.name
            is = holder_is e.owners given.process.name given.role.name a.process.name fit.held

            now : passed e.owners given.process.name given.role.name b.process.name ≡ (after_statement f e (Gives a b k given)).owners
            now = ap (λ o. (with_endpoint e k.name b.process.name given o).owners) (sym i)

            after_it : (g' : Held) → KnowsPassed r f scope e t g knows a b given.process given.role.name is fit.free g' → Knows r g' (after_statement f e (Gives a b k given))
            after_it g' v = record {
              there = λ s c h. v.there s c (ap (λ hs. holder_of hs s c) now ∙ h);
              back = λ s h. (let z = v.back s h in record { role = z.role; is = ap (λ hs. holder_of hs s z.role) (sym now) ∙ z.is });
            }

            go : (x y : Bool) → (r.0 == a.process.name.0) ≡ x → (r.0 == b.process.name.0) ≡ y → Exchanges x y g (name_ref k) (OfPart (name_ref given.process) given.role.name) (UsesHeld ep fs r rest)
            go true y i j = (
              has_role k a.role a.process w.0 i,
              has_role given.process given.role a.process fit.held i,
              more (with_held g given.process.name.0 false) (after_it (with_held g given.process.name.0 false) (sent r f scope e t g knows a b given.process given.role.name is fit.free i)),
            )
            go false true i j = (
              has_role k b.role b.process w.1 j,
              none_held r f scope e t g knows a b given.process given.role.name is fit.free j,
              more (with_held g given.process.name.0 true) (after_it (with_held g given.process.name.0 true) (gained r f scope e t g knows a b given.process given.role.name is fit.free j)),
            )
            go false false i j = more g (after_it g (neither r f scope e t g knows a b given.process given.role.name is fit.free i j))

    -- At a statement without fault it uses the sessions in which it holds a role
    statement_uses : (s : Statement) (rest : Choreography) → NamesKept f scope e s → SessionsKept f scope s → first_failed (statement_checks f e s) ≡ None → AreThere f ep (chor.Then (node_of s) rest) → Goes (after_statement f e s) rest
        → UsesHeld ep fs r (chor.Then (node_of s) rest) g
    statement_uses (Starts c k active serve) rest w n h there more = start_uses c k active serve w n h rest there more
    statement_uses (Sends a x b y k) rest w n h there more =
        let v = two_parties e k a b (value_checks (value_sent a.role.name b.role.name (step_at f e k.name)) (sort_at e a.process x)) h in
        plain_part a b k (OfValue x y) rest (after_statement f e (Sends a x b y k)) (same (value_sent a.role.name b.role.name (step_at f e k.name))) (tt, tt, λ b. refl) v.0 v.1 more
      where
        same : (o : Option (Sort × NameId)) → (with_value e k.name b.process.name y o).owners ≡ e.owners
        same None = refl
        same (Some u) = refl
    statement_uses (Selects a b k l) rest w n h there more =
        let v = two_parties e k a b (label_checks (labels_sent a.role.name b.role.name (step_at f e k.name)) l) h in
        plain_part a b k (OfLabel l) rest (after_statement f e (Selects a b k l)) (same (arm_in (labels_sent a.role.name b.role.name (step_at f e k.name)) l)) (tt, tt, λ b. refl) v.0 v.1 more
      where
        same : (o : Option NameId) → (with_state e k.name o).owners ≡ e.owners
        same None = refl
        same (Some u) = refl
    statement_uses (Gives a b k given) rest w n h there more = given_part a b k given rest h more
    statement_uses (Sets p y x) rest w n h there more = more g (same_known g e (after_statement f e (Sets p y x)) (same (sort_at e p x)) knows)
      where
        same : (o : Result Sort Rule) → (with_sort e p.name y o).owners ≡ e.owners
        same (Ok s) = refl
        same (Err z) = refl
    statement_uses (Asks p y u x z) rest w n h there more = more g (same_known g e (after_statement f e (Asks p y u x z)) refl knows)
    statement_uses (Shows p x) rest w n h there more = more g (same_known g e (after_statement f e (Shows p x)) refl knows)

    -- ---- calls

    sessions_held : (x : NameId) (qs : List ProcParam) (ps : List Written) → all_differ (map (λ q. q.name.name) qs) ≡ true → param_for r qs (map name_ref ps) ≡ Some x → (ks : List SessionParam) (ss : List Written) → sessions_fit e qs ps ks ss ≡ true
        → HoldsListed g x ks (map name_ref ss)
    sessions_held x qs ps od i [] ss h = tt
    sessions_held x qs ps od i (k ∷ ks) [] h = tt
    sessions_held x qs ps od i (k ∷ ks) (s ∷ ss) h =
        let w = and_parts _ _ h in (
          λ j. (let l = listed_role (λ c z. holds_as e s.name c z qs ps) x k.holders j (and_parts _ _ w.0).1 in knows.there s.name l.role (passed_holds e s.name l.role r x qs ps od i l.holds_of)),
          sessions_held x qs ps od i ks ss w.1,
        )

    refs_count : (ks : List Written) → length (map name_ref ks) ≡ length ks
    refs_count [] = refl
    refs_count (k ∷ ks) = ap suc (refs_count ks)

    refs_names : (ks : List Written) → map name_of (map name_ref ks) ≡ names_in ks
    refs_names [] = refl
    refs_names (k ∷ ks) = ap (λ l. k.name ∷ l) (refs_names ks)

    call_uses : (place : Place) (c : Written) (ps ks : List Written) → f.procs ≡ fs → IsNamedCall f scope c ps ks → rule_at f e (Calls place c ps ks) ≡ None → UsesHeld ep fs r (chor.Calls c.name 0 (map name_ref ps) (map name_ref ks)) g
    call_uses place c ps ks same w h =
        subst (PassesAtCall r (map name_ref ps) (map name_ref ks) g) (sym (ap (λ z. proc_named z c.name) (sym same) ∙ proc_same f.procs c.name ∙ w.is))
        (passes (param_for r w.procedure.params (map name_ref ps)) refl)
      where
        ks_differ : all_differ (names_in ks) ≡ true
        ks_differ = (and_parts (all_differ (names_in ps)) (all_differ (names_in ks)) (asked (all_differ (names_in ps) && all_differ (names_in ks)) T7 (first_passes (ask (all_differ (names_in ps) && all_differ (names_in ks)) T7) (arguments_fit e (procedure_of f c.name) ps ks ++ ask (rest_ended f e (names_in ks)) T6 ∷ []) h).0)).1

        passes : (o : Option NameId) → param_for r w.procedure.params (map name_ref ps) ≡ o → PassesFor g w.procedure (map name_ref ks) o
        passes None i = tt
        passes (Some x) i = record {
          count = refs_count ks ∙ w.many_sessions;
          listed = sessions_held x w.procedure.params ps (differ.params c.name w.procedure w.is) i w.procedure.sessions ks (call_sessions f e place scope c ps ks w h);
          apart = subst AreDistinct (sym (refs_names ks)) (distinct_names (names_in ks) ks_differ);
        }

module _ (f : File) (ep : Endpoints) (differ : DiffersThere f) (r : NameId) where
  in_scope_after : (scope : Scope) (s : Statement) → is_in scope.processes r ≡ true → is_in (scope_with scope s).processes r ≡ true
  in_scope_after scope (Starts c k active serve) i = among_front scope.processes (map (λ q. q.process.name) serve) r i
  in_scope_after scope (Sends a x b y k) i = i
  in_scope_after scope (Selects a b k l) i = i
  in_scope_after scope (Gives a b k given) i = i
  in_scope_after scope (Sets q y x) i = i
  in_scope_after scope (Asks q y g x z) i = i
  in_scope_after scope (Shows q x) i = i

  -- Along a block without fault a process in scope uses the sessions in which it holds a role
  pub block_uses : (b : Block) (scope : Scope) (e : Environment) → IsFaultless f scope e b → AreNamed f scope b → KeepsOwners scope e → AreThere f ep (choreography_of b) → is_in scope.processes r ≡ true
      → (g : Held) → Knows r g e → UsesHeld ep f.procs r (choreography_of b) g
  block_uses (Then place s next) scope e (names, rule, rest) n t there here g knows =
      statement_uses ep f.procs r f differ scope e t here g knows s (choreography_of next) names n.0 rule there
      (λ g' k'. block_uses next (scope_with scope s) (after_statement f e s) rest n.1 (statement_owned f scope e t s names rule).keeps (λ c z m. there c z (inr m)) (in_scope_after scope s here) g' k')
  block_uses (Either place p x first second) scope e (names, rule, one, other) n t there here g knows =
      (block_uses first scope e one n.0 t (λ c z m. there c z (inl m)) here g knows, block_uses second scope e other n.1 t (λ c z m. there c z (inr m)) here g knows)
  block_uses (Calls place c ps ks) scope e (w, rule) n t there here g knows = call_uses ep f.procs r f differ scope e t here g knows place c ps ks refl w rule
  block_uses (Ends place) scope e rule n t there here g knows = tt
