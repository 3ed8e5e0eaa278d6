-- Along a block without fault a process holds each role that it plays.
use Rattle.std.proofs.Common.{◌≡◌, ℕ, List, [], ◌∷◌, ◌++◌, map, refl, sym, ap, ◌∙◌, subst, Some, None, Option, Bool, true, false, if◌then◌else◌, ◌==◌, ◌&&◌}
use Rattle.std.specs.Prelude.{Result, Ok, Err}
use Rattle.std.proofs.lemmas.Bool.{and_parts}
use Rattle.chor_base.specs.declared.names.NameId.{NameId}
use Rattle.chor_base.specs.declared.rule.Place.{Place}
use Rattle.chor_base.specs.declared.rule.Rule.{Rule}
use Rattle.chor_base.specs.declared.rule.Rule.TheVariants.{T9}
use Rattle.chor_base.specs.declared.value.Sort.{Sort}
use Rattle.chor_tree.specs.declared.file.File.{File}
use Rattle.chor_tree.specs.declared.file.Named.{Named as Written}
use Rattle.chor_tree.specs.declared.file.Proc.{Proc}
use Rattle.chor_tree.specs.declared.file.ProcParam.{ProcParam}
use Rattle.chor_tree.specs.declared.file.SessionParam.{SessionParam}
use Rattle.chor_tree.specs.declared.tree.Part.{Part}
use Rattle.chor_tree.specs.Names.{Scope, is_among, procedure_of}
use Rattle.chor_tree.specs.Source.{Statement, Starts, Sends, Selects, Gives, Sets, Asks, Shows, Block, Then, Either, Calls, Ends}
use Rattle.chor_semantics.specs.Choreography as chor
use Rattle.chor_semantics.specs.Choreography.{Content, OfValue, OfLabel, OfPart, Choreography}
use Rattle.chor_semantics.specs.Sources.{name_ref, parts_of}
use Rattle.well_formed.proofs.References.{same_name, clash, true_eq}
use Rattle.delegation.specs.declared.held.Held.{Held}
use Rattle.delegation.specs.Owners.{holder_of, holds, started, passed}
use Rattle.delegation.specs.Checks.{ask, all_differ, first_failed}
use Rattle.typing_rules.specs.declared.allowed.EndpointType.{EndpointType}
use Rattle.typing_rules.specs.Environment.{Environment, step_at}
use Rattle.typing_rules.specs.Allowed.{value_sent, labels_sent, arm_in, endpoint_sent}
use Rattle.typing_rules.specs.Checks.{sort_at, value_checks, label_checks, endpoint_checks, statement_checks, holds_as, sessions_fit, rule_at}
use Rattle.typing_rules.specs.After.{with_value, with_state, with_endpoint, with_sort, after_statement}
use Rattle.typed_sources.proofs.Checked.{first_passes, asked, holder_is, some_is}
use Rattle.typed_sources.proofs.Moved.{passed_other, passed_this, holds_one}
use Rattle.typed_sources.proofs.Opened.{IsNamedStart, holder_other, holder_new}
use Rattle.chor_semantics.specs.Blocks.{node_of, choreography_of}
use Rattle.typed_sources.proofs.Sources.{NamesKept, IsNamedCall, IsFaultless, scope_with}
use Rattle.projection.specs.Codes.{is_named, role_in, proc_named, param_for}
use Rattle.accepted_files.specs.PlayedRoles.{Roles, with_role, HoldsRole, GivesAway, roles_sent, roles_gained, TakesPart, HoldsPassed, HoldsPassedFor, HoldsAtCall, HoldsRoles}
use Rattle.typed_sources.proofs.Scopes.{among_front}
use Rattle.typed_sources.proofs.Owned.{KeepsOwners, two_parties, GivenFits, given_fits, statement_owned, call_sessions}
use Rattle.typed_sources.proofs.BlockScopes.{none_of}
use Rattle.accepted_files.proofs.Parts.{active_role, proc_same, passed_holds, listed_role}

-- it knows the roles that it holds
abbrev pub Knows : NameId → Roles → Environment → Type 0
Knows r g e = (k a : NameId) → holder_of e.owners k a ≡ Some r → g k.0 ≡ Some a

module _ (fs : List Proc) (r : NameId) where
  -- what follows a statement, where it knows its roles
  abbrev Goes : Environment → Choreography → Type 0
  Goes e rest = (g : Roles) → Knows r g e → HoldsRoles fs r rest g

  -- the roles that it knows, where the holders are the same
  same_known : (g : Roles) (e e' : Environment) → e'.owners ≡ e.owners → Knows r g e → Knows r g e'
  same_known g e e' same w = λ k a h. w k a (ap (λ hs. holder_of hs k a) (sym same) ∙ h)

  -- another session's role
  other_role : (g : Roles) (k y : ℕ) (o : Option NameId) (a : NameId) → (k == y) ≡ false → g y ≡ Some a → with_role g k o y ≡ Some a
  other_role g k y o a off h = ap (λ (b : Bool). if b then o else g y) off ∙ h

  module _ (f : File) (scope : Scope) (e : Environment) (t : KeepsOwners scope e) (here : is_among scope.processes r ≡ true) (g : Roles) (knows : Knows r g e) where
    -- its role in a session
    has_role : (k a p : Written) → holds e.owners k.name a.name p.name ≡ true → (r.0 == p.name.0) ≡ true → HoldsRole g (name_ref k) a.name
    has_role k a p h i = knows k.name a.name (holder_is e.owners k.name a.name p.name h ∙ ap Some (sym (same_name r p.name i)))

    start_known : (c k : Written) (active serve : List Part) → IsNamedStart f scope e c.name k.name active serve → first_failed (statement_checks f e (Starts c k active serve)) ≡ None
        → Knows r (with_role g k.name.0 (role_in r (parts_of active))) (after_statement f e (Starts c k active serve))
    start_known c k active serve w h = λ s a i. go s a (k.name.0 == s.0) refl i
      where
        differ : all_differ (map (λ q. q.process.name) (active ++ serve)) ≡ true
        differ = asked (all_differ (map (λ q. q.process.name) (active ++ serve))) T9 (first_passes (ask (all_differ (map (λ q. q.process.name) (active ++ serve))) T9) [] h).0

        off : (b : Bool) → is_among (map (λ q. q.process.name) serve) r ≡ b → is_among (map (λ q. q.process.name) serve) r ≡ false
        off false i = i
        off true i = absurd (clash here (none_of scope.processes serve w.new r i))

        go : (s a : NameId) (b : Bool) → (k.name.0 == s.0) ≡ b → holder_of (e.owners ++ started k.name (active ++ serve)) s a ≡ Some r → with_role g k.name.0 (role_in r (parts_of active)) s.0 ≡ Some a
        go s a true i h =
            let there : holder_of (started k.name (active ++ serve)) k.name a ≡ Some r =
            sym (holder_new e.owners k.name (active ++ serve) a (t.held k.name a w.free)) ∙ ap (λ x. holder_of (e.owners ++ started k.name (active ++ serve)) x a) (same_name k.name s i) ∙ h in
            ap (λ (b : Bool). if b then role_in r (parts_of active) else g s.0) i
            ∙ active_role k.name r active serve differ (off (is_among (map (λ q. q.process.name) serve) r) refl) a there
        go s a false i h = other_role g k.name.0 s.0 (role_in r (parts_of active)) a i (knows s a (sym (holder_other e.owners k.name (active ++ serve) s a i) ∙ h))

    -- at a communication that hands nothing over
    plain_part : (a b : Part) (k : Written) (w : Content) (rest : Choreography) (e' : Environment) → e'.owners ≡ e.owners → (GivesAway g w) × (roles_sent g w ≡ g) × (roles_gained g w ≡ g)
        → holds e.owners k.name a.role.name a.process.name ≡ true → holds e.owners k.name b.role.name b.process.name ≡ true → Goes e' rest
        → TakesPart (is_named r (name_ref a.process)) (is_named r (name_ref b.process)) g (name_ref k) a.role.name b.role.name w (HoldsRoles fs r rest)
    plain_part a b k w rest e' same p ha hb more = go (r.0 == a.process.name.0) (r.0 == b.process.name.0) refl refl
      where
        on : HoldsRoles fs r rest g
        on = more g (same_known g e e' same knows)

        go : (x y : Bool) → (r.0 == a.process.name.0) ≡ x → (r.0 == b.process.name.0) ≡ y → TakesPart x y g (name_ref k) a.role.name b.role.name w (HoldsRoles fs r rest)
        go true y i j = (has_role k a.role a.process ha i, p.0, subst (HoldsRoles fs r rest) (sym p.1) on)
        go false true i j = (has_role k b.role b.process hb j, subst (HoldsRoles fs r rest) (sym p.2) on)
        go false false i j = on

    -- at one that hands a role over
    given_part : (a b : Part) (k : Written) (given : Part) (rest : Choreography) → first_failed (statement_checks f e (Gives a b k given)) ≡ None → Goes (after_statement f e (Gives a b k given)) rest
        → TakesPart (is_named r (name_ref a.process)) (is_named r (name_ref b.process)) g (name_ref k) a.role.name b.role.name (OfPart (name_ref given.process) given.role.name) (HoldsRoles fs r rest)
    given_part a b k given rest h more = part (endpoint_sent a.role.name b.role.name (step_at f e k.name)) refl w.2
      where
        w : (holds e.owners k.name a.role.name a.process.name ≡ true) × (holds e.owners k.name b.role.name b.process.name ≡ true) × (first_failed (endpoint_checks e a b given (endpoint_sent a.role.name b.role.name (step_at f e k.name))) ≡ None)
        w = two_parties e k a b (endpoint_checks e a b given (endpoint_sent a.role.name b.role.name (step_at f e k.name))) h

        part : (o : Option (EndpointType × NameId)) → endpoint_sent a.role.name b.role.name (step_at f e k.name) ≡ o → first_failed (endpoint_checks e a b given o) ≡ None
            → TakesPart (is_named r (name_ref a.process)) (is_named r (name_ref b.process)) g (name_ref k) a.role.name b.role.name (OfPart (name_ref given.process) given.role.name) (HoldsRoles fs r rest)
        part None i j = absurd cc
        part (Some (u, m)) i j = go (r.0 == a.process.name.0) (r.0 == b.process.name.0) refl refl
          where
            fit : GivenFits e a b given
            fit = given_fits f e a b k given (Some (u, m)) j

            is : holder_of e.owners given.process.name given.role.name ≡ Some a.process.name
            is = holder_is e.owners given.process.name given.role.name a.process.name fit.held

            P : List Held
            P = passed e.owners given.process.name given.role.name b.process.name

            now : P ≡ (after_statement f e (Gives a b k given)).owners
            now = ap (λ o. (with_endpoint e k.name b.process.name given o).owners) (sym i)

            -- it knows its roles afterwards, where it does in the sessions that aren't changed and in this one
            knows_after : (g' : Roles) → ((s c : NameId) → b.process.name ≡ r → c ≡ given.role.name → s ≡ given.process.name → g' s.0 ≡ Some c)
                → ((s c : NameId) → ((s.0 == given.process.name.0) && (c.0 == given.role.name.0)) ≡ false → holder_of e.owners s c ≡ Some r → g' s.0 ≡ Some c)
                → Knows r g' (after_statement f e (Gives a b k given))
            knows_after g' this rest s c i = step ((s.0 == given.process.name.0) && (c.0 == given.role.name.0)) refl (ap (λ hs. holder_of hs s c) now ∙ i)
              where
                step : (x : Bool) → ((s.0 == given.process.name.0) && (c.0 == given.role.name.0)) ≡ x → holder_of P s c ≡ Some r → g' s.0 ≡ Some c
                step true j h =
                    let v = and_parts _ _ j in
                    let ss = same_name s given.process.name v.0 in
                    let cs = same_name c given.role.name v.1 in
                    this s c (some_is _ _ (sym (passed_this f scope e.owners given.process.name given.role.name b.process.name a.process.name is) ∙ sym (ap (λ x. holder_of P x c) ss ∙ ap (holder_of P given.process.name) cs) ∙ h)) cs ss
                step false j h = rest s c j (sym (passed_other f scope e.owners given.process.name given.role.name b.process.name s c j) ∙ h)

            not_both : (b c : Bool) → b ≡ true → c ≡ true → (b && c) ≡ false → ⊥
            not_both b c i j k = cc

            sent : (r.0 == a.process.name.0) ≡ true → Knows r (with_role g given.process.name.0 None) (after_statement f e (Gives a b k given))
            sent me = knows_after (with_role g given.process.name.0 None) this rest'
              where
                mine : holder_of e.owners given.process.name given.role.name ≡ Some r
                mine = is ∙ ap Some (sym (same_name r a.process.name me))

                this : (s c : NameId) → b.process.name ≡ r → c ≡ given.role.name → s ≡ given.process.name → with_role g given.process.name.0 None s.0 ≡ Some c
                this s c who role there = absurd (clash (holds_one f scope e.owners given.process.name given.role.name b.process.name (mine ∙ ap Some (sym who))) fit.free)

                rest' : (s c : NameId) → ((s.0 == given.process.name.0) && (c.0 == given.role.name.0)) ≡ false → holder_of e.owners s c ≡ Some r → with_role g given.process.name.0 None s.0 ≡ Some c
                rest' s c j h = there (given.process.name.0 == s.0) refl
                  where
                    there : (y : Bool) → (given.process.name.0 == s.0) ≡ y → with_role g given.process.name.0 None s.0 ≡ Some c
                    there false off = other_role g given.process.name.0 s.0 None c off (knows s c h)
                    there true on =
                        let ss = same_name given.process.name s on in
                        let cs = t.one_role given.process.name c given.role.name r (ap (λ x. holder_of e.owners x c) ss ∙ h) mine in
                        absurd (not_both (s.0 == given.process.name.0) (c.0 == given.role.name.0) (ap (λ (x : NameId). x.0 == given.process.name.0) (sym ss) ∙ true_eq given.process.name.0) (ap (λ (x : NameId). x.0 == given.role.name.0) cs ∙ true_eq given.role.name.0) j)

            gained : (r.0 == b.process.name.0) ≡ true → Knows r (with_role g given.process.name.0 (Some given.role.name)) (after_statement f e (Gives a b k given))
            gained me = knows_after (with_role g given.process.name.0 (Some given.role.name)) this rest'
              where
                this : (s c : NameId) → b.process.name ≡ r → c ≡ given.role.name → s ≡ given.process.name → with_role g given.process.name.0 (Some given.role.name) s.0 ≡ Some c
                this s c who role there = ap (λ (b : Bool). if b then Some given.role.name else g s.0) (ap (λ (x : NameId). given.process.name.0 == x.0) there ∙ true_eq given.process.name.0) ∙ ap Some (sym role)

                rest' : (s c : NameId) → ((s.0 == given.process.name.0) && (c.0 == given.role.name.0)) ≡ false → holder_of e.owners s c ≡ Some r → with_role g given.process.name.0 (Some given.role.name) s.0 ≡ Some c
                rest' s c j h = there (given.process.name.0 == s.0) refl
                  where
                    there : (y : Bool) → (given.process.name.0 == s.0) ≡ y → with_role g given.process.name.0 (Some given.role.name) s.0 ≡ Some c
                    there false off = other_role g given.process.name.0 s.0 (Some given.role.name) c off (knows s c h)
                    there true on =
                        let ss = same_name given.process.name s on in
                        absurd (clash (holds_one f scope e.owners given.process.name c b.process.name (ap (λ x. holder_of e.owners x c) ss ∙ h ∙ ap Some (same_name r b.process.name me))) fit.free)

            neither : (r.0 == b.process.name.0) ≡ false → Knows r g (after_statement f e (Gives a b k given))
            neither off = knows_after g this rest'
              where
                this : (s c : NameId) → b.process.name ≡ r → c ≡ given.role.name → s ≡ given.process.name → g s.0 ≡ Some c
                this s c who role there = absurd (clash (ap (λ (x : NameId). r.0 == x.0) who ∙ true_eq r.0) off)

                rest' : (s c : NameId) → ((s.0 == given.process.name.0) && (c.0 == given.role.name.0)) ≡ false → holder_of e.owners s c ≡ Some r → g s.0 ≡ Some c
                rest' s c j h = knows s c h

            go : (x y : Bool) → (r.0 == a.process.name.0) ≡ x → (r.0 == b.process.name.0) ≡ y → TakesPart x y g (name_ref k) a.role.name b.role.name (OfPart (name_ref given.process) given.role.name) (HoldsRoles fs r rest)
            go true y i j = (has_role k a.role a.process w.0 i, has_role given.process given.role a.process fit.held i, more (with_role g given.process.name.0 None) (sent i))
            go false true i j = (has_role k b.role b.process w.1 j, more (with_role g given.process.name.0 (Some given.role.name)) (gained j))
            go false false i j = more g (neither j)

    -- At a statement without fault it holds the roles that it plays
    statement_holds : (s : Statement) (rest : Choreography) → NamesKept f scope e s → first_failed (statement_checks f e s) ≡ None → Goes (after_statement f e s) rest → HoldsRoles fs r (chor.Then (node_of s) rest) g
    statement_holds (Starts c k active serve) rest w h more = more (with_role g k.name.0 (role_in r (parts_of active))) (start_known c k active serve w h)
    statement_holds (Sends a x b y k) rest w h more =
        let v = two_parties e k a b (value_checks (value_sent a.role.name b.role.name (step_at f e k.name)) (sort_at e a.process x)) h in
        plain_part a b k (OfValue x y) rest (after_statement f e (Sends a x b y k)) (same (value_sent a.role.name b.role.name (step_at f e k.name))) (tt, refl, refl) v.0 v.1 more
      where
        same : (o : Option (Sort × NameId)) → (with_value e k.name b.process.name y o).owners ≡ e.owners
        same None = refl
        same (Some u) = refl
    statement_holds (Selects a b k l) rest w h more =
        let v = two_parties e k a b (label_checks (labels_sent a.role.name b.role.name (step_at f e k.name)) l) h in
        plain_part a b k (OfLabel l) rest (after_statement f e (Selects a b k l)) (same (arm_in (labels_sent a.role.name b.role.name (step_at f e k.name)) l)) (tt, refl, refl) v.0 v.1 more
      where
        same : (o : Option NameId) → (with_state e k.name o).owners ≡ e.owners
        same None = refl
        same (Some u) = refl
    statement_holds (Gives a b k given) rest w h more = given_part a b k given rest h more
    statement_holds (Sets p y x) rest w h more = more g (same_known g e (after_statement f e (Sets p y x)) (same (sort_at e p x)) knows)
      where
        same : (o : Result Sort Rule) → (with_sort e p.name y o).owners ≡ e.owners
        same (Ok s) = refl
        same (Err z) = refl
    statement_holds (Asks p y u x z) rest w h more = more g knows
    statement_holds (Shows p x) rest w h more = more g knows

    -- ---- calls

    sessions_hold : (x : NameId) (qs : List ProcParam) (ps : List Written) → all_differ (map (λ q. q.name.name) qs) ≡ true → param_for r qs (map name_ref ps) ≡ Some x → (ks : List SessionParam) (ss : List Written) → sessions_fit e qs ps ks ss ≡ true
        → HoldsPassed g x ks (map name_ref ss)
    sessions_hold x qs ps od i [] ss h = tt
    sessions_hold x qs ps od i (k ∷ ks) [] h = tt
    sessions_hold x qs ps od i (k ∷ ks) (s ∷ ss) h =
        let w = and_parts _ _ h in (
          λ j. (let l = listed_role (λ c z. holds_as e s.name c z qs ps) x k.holders j (and_parts _ _ w.0).1 in knows s.name l.role (passed_holds e s.name l.role r x qs ps od i l.holds_of) ∙ sym l.is),
          sessions_hold x qs ps od i ks ss w.1,
        )

    call_holds : (place : Place) (c : Written) (ps ks : List Written) → ((p : Proc) → procedure_of f c.name ≡ Some p → all_differ (map (λ q. q.name.name) p.params) ≡ true) → f.procs ≡ fs → IsNamedCall f scope c ps ks
        → rule_at f e (Calls place c ps ks) ≡ None → HoldsRoles fs r (chor.Calls c.name 0 (map name_ref ps) (map name_ref ks)) g
    call_holds place c ps ks od same w h =
        subst (HoldsAtCall r (map name_ref ps) (map name_ref ks) g) (sym (ap (λ z. proc_named z c.name) (sym same) ∙ proc_same f.procs c.name ∙ w.is))
        (passed (param_for r w.procedure.params (map name_ref ps)) refl)
      where
        passed : (o : Option NameId) → param_for r w.procedure.params (map name_ref ps) ≡ o → HoldsPassedFor (map name_ref ks) g w.procedure o
        passed None i = tt
        passed (Some x) i = sessions_hold x w.procedure.params ps (od w.procedure w.is) i w.procedure.sessions ks (call_sessions f e place scope c ps ks w h)

module _ (f : File) (apart : (h : NameId) (p : Proc) → procedure_of f h ≡ Some p → all_differ (map (λ q. q.name.name) p.params) ≡ true) (r : NameId) where
  there_after : (scope : Scope) (s : Statement) → is_among scope.processes r ≡ true → is_among (scope_with scope s).processes r ≡ true
  there_after scope (Starts c k active serve) i = among_front scope.processes (map (λ q. q.process.name) serve) r i
  there_after scope (Sends a x b y k) i = i
  there_after scope (Selects a b k l) i = i
  there_after scope (Gives a b k given) i = i
  there_after scope (Sets q y x) i = i
  there_after scope (Asks q y g x z) i = i
  there_after scope (Shows q x) i = i

  -- Along a block without fault a process in scope holds each role that it plays, where it knows those that it holds at first
  pub block_holds : (b : Block) (scope : Scope) (e : Environment) → IsFaultless f scope e b → KeepsOwners scope e → is_among scope.processes r ≡ true → (g : Roles) → Knows r g e → HoldsRoles f.procs r (choreography_of b) g
  block_holds (Then place s next) scope e (names, rule, rest) t here g knows =
      statement_holds f.procs r f scope e t here g knows s (choreography_of next) names rule
      (λ g' k'. block_holds next (scope_with scope s) (after_statement f e s) rest (statement_owned f scope e t s names rule).keeps (there_after scope s here) g' k')
  block_holds (Either place p x first second) scope e (names, rule, one, other) t here g knows = (block_holds first scope e one t here g knows, block_holds second scope e other t here g knows)
  block_holds (Calls place c ps ks) scope e (w, rule) t here g knows = call_holds f.procs r f scope e t here g knows place c ps ks (apart c.name) refl w rule
  block_holds (Ends place) scope e rule t here g knows = tt
