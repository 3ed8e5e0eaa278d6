-- Everybody holds its roles in a file without faults: each process of main, each parameter of a procedure, each service.
use Rattle.std.proofs.Common.{◌≡◌, ℕ, zero, suc, ◌<◌, List, [], ◌∷◌, ◌++◌, map, length, refl, sym, ap, ◌∙◌, subst, Some, None, Bool, true, false, if◌then◌else◌, ◌==◌, ◌||◌, arith}
use Rattle.std.specs.Prelude.{Contains, slice_get, not}
use Rattle.std.specs.List.{flat_map}
use Rattle.std.proofs.lemmas.Bool.{and_parts}
use Rattle.chor_base.specs.declared.names.NameId.{NameId}
use Rattle.chor_base.specs.declared.rule.Place.{Place}
use Rattle.chor_base.specs.declared.rule.Rule.{Rule}
use Rattle.chor_base.specs.declared.rule.Rule.TheVariants.{T9}
use Rattle.chor_base.specs.Faults.{fault_if}
use Rattle.chor_tree.specs.declared.file.File.{File}
use Rattle.chor_tree.specs.declared.file.Named.{Named as Written}
use Rattle.chor_tree.specs.declared.file.Proc.{Proc}
use Rattle.chor_tree.specs.declared.file.SessionParam.{SessionParam}
use Rattle.chor_tree.specs.declared.tree.Part.{Part}
use Rattle.chor_tree.specs.Names.{Scope, is_among, names_in, procedure_of, scope_of_main, scope_of_procedure}
use Rattle.chor_tree.specs.Source.{Statement, Starts, Sends, Selects, Gives, Sets, Asks, Shows, Block, Then, Either, Calls, Ends, body_of}
use Rattle.chor_semantics.specs.Choreography.{Choreography}
use Rattle.chor_semantics.specs.Sources.{served_of}
use Rattle.well_formed.proofs.References.{same_name, clash, true_eq, or_rights}
use Rattle.delegation.specs.Owners.{holder_of, started}
use Rattle.delegation.specs.Checks.{ask, all_differ, first_failed}
use Rattle.typing_rules.specs.Environment.{Environment, at_main, at_procedure}
use Rattle.typing_rules.specs.Checks.{statement_checks}
use Rattle.typing_rules.specs.TypeFaults.{holder_fault}
use Rattle.typing_rules.specs.After.{after_statement}
use Rattle.typed_sources.proofs.Checked.{first_passes, asked, some_is}
use Rattle.typed_sources.proofs.Opened.{IsNamedStart, holder_other, holder_new, not_is}
use Rattle.typed_sources.proofs.Arguments.{owners_of, holder_elsewhere, no_owner}
use Rattle.typed_sources.specs.Laws.{IsAccepted}
use Rattle.chor_semantics.specs.Blocks.{node_of, choreography_of}
use Rattle.chor_semantics.proofs.Blocks.{choreography_at}
use Rattle.typed_sources.proofs.Sources.{NamesKept, IsFaultless, scope_with}
use Rattle.typed_sources.proofs.Resolved.{both_empty, found_in}
use Rattle.typed_sources.proofs.Accepted.{main_faultless, procedures_keep, head_fine}
use Rattle.projection.specs.Codes.{proc_named}
use Rattle.projection.specs.Projects.{body_at}
use Rattle.accepted_files.specs.PlayedRoles.{with_role, has_name, params_of, holder_role, roles_of, HoldsRoles, EachServiceHolds, ServicesHoldAt, ServicesHold}
use Rattle.accepted_files.specs.Premises.{ProceduresHold, MainHolds, AllServicesHold, HoldsItsRoles}
use Rattle.typed_sources.proofs.Owned.{KeepsOwners, statement_owned}
use Rattle.typed_sources.proofs.Declared.{main_keeps, body_keeps}
use Rattle.typed_sources.proofs.WellFormedFiles.{params_apart}
use Rattle.typed_sources.proofs.BlockScopes.{none_of}
use Rattle.accepted_files.proofs.Parts.{part_role, proc_same, head_role}
use Rattle.accepted_files.proofs.Along.{Knows, block_holds}

-- ---- where a procedure begins

no_check : (b : Bool) (r : Rule) (p : Place) → fault_if (not b) r p ≡ [] → b ≡ true
no_check true r p h = refl
no_check false r p h = absurd cc

-- each parameter knows the roles for which it is listed
head_knows : (ks : List SessionParam) → all_differ (map (λ k. k.name.name) ks) ≡ true → flat_map holder_fault ks ≡ [] → (p k a : NameId) → holder_of (owners_of ks) k a ≡ Some p → roles_of p ks k.0 ≡ Some a
head_knows [] od h p k a i = absurd cc
head_knows (x ∷ xs) od h p k a i = go (x.name.name.0 == k.0) refl (λ j. head_knows xs w.1 fine.1 p k a j)
  where
    w : (not (is_among (map (λ k. k.name.name) xs) x.name.name) ≡ true) × (all_differ (map (λ k. k.name.name) xs) ≡ true)
    w = and_parts _ _ od

    fine : (holder_fault x ≡ []) × (flat_map holder_fault xs ≡ [])
    fine = both_empty (holder_fault x) (flat_map holder_fault xs) h

    go : (b : Bool) → (x.name.name.0 == k.0) ≡ b → (holder_of (owners_of xs) k a ≡ Some p → roles_of p xs k.0 ≡ Some a) → (if x.name.name.0 == k.0 then holder_role p x.holders else roles_of p xs k.0) ≡ Some a
    go true t ih =
        ap (λ (b : Bool). if b then holder_role p x.holders else roles_of p xs k.0) t
        ∙ head_role x.name.name x.holders (owners_of xs) k a p t (no_check (all_differ (map (λ h. h.1.name) x.holders)) T9 x.name.place fine.0)
        (no_owner xs k a p (subst (λ z. is_among (map (λ k. k.name.name) xs) z ≡ false) (same_name x.name.name k t) (not_is _ w.0))) i
    go false t ih =
        ap (λ (b : Bool). if b then holder_role p x.holders else roles_of p xs k.0) t
        ∙ ih (sym (holder_elsewhere x.name.name x.holders (owners_of xs) k a t) ∙ i)

has_among : (p : NameId) (xs : List NameId) → has_name p xs ≡ true → is_among xs p ≡ true
has_among p [] h = absurd cc
has_among p (x ∷ xs) h = go (p.0 == x.0) refl h (has_among p xs)
  where
    go : (b : Bool) → (p.0 == x.0) ≡ b → (if b then true else has_name p xs) ≡ true → (has_name p xs ≡ true → is_among xs p ≡ true) → ((x.0 == p.0) || is_among xs p) ≡ true
    go true i j ih = ap (λ b. b || is_among xs p) (ap (λ z. x.0 == z.0) (same_name p x i) ∙ true_eq x.0)
    go false i j ih = or_rights (x.0 == p.0) _ (ih j)

process_among : (ws : List Written) (p : ℕ) (w : Written) → slice_get ws p ≡ Some w → is_among (names_in ws) w.name ≡ true
process_among [] p w i = absurd cc
process_among (v ∷ vs) zero w i = ap (λ b. b || is_among (names_in vs) w.name) (ap (λ (z : Written). z.name.0 == w.name.0) (some_is v w i) ∙ true_eq w.name.0)
process_among (v ∷ vs) (suc p) w i = or_rights (v.name.0 == w.name.0) _ (process_among vs p w i)

-- ---- services

module _ (f : File) (apart : (h : NameId) (p : Proc) → procedure_of f h ≡ Some p → all_differ (map (λ q. q.name.name) p.params) ≡ true) where
  each_holds : (k : NameId) (rest : Choreography) (qs : List Part) → ((q : Part) → Contains qs q → HoldsRoles f.procs q.process.name rest (with_role (λ y. None) k.0 (Some q.role.name))) → EachServiceHolds f.procs k.0 rest (served_of qs)
  each_holds k rest [] h = tt
  each_holds k rest (q ∷ qs) h = (h q (0, omega arith, refl), each_holds k rest qs (λ x m. h x (suc m.0, (let l : m.0 < length qs = m.1 in omega (arith, l)), m.2)))

  in_front : (xs ys : List Part) (q : Part) → Contains ys q → Contains (xs ++ ys) q
  in_front [] ys q m = m
  in_front (x ∷ xs) ys q m = let w = in_front xs ys q m in (suc w.0, (let l : w.0 < length (xs ++ ys) = w.1 in omega (arith, l)), w.2)

  part_among : (qs : List Part) (q : Part) → Contains qs q → is_among (map (λ z. z.process.name) qs) q.process.name ≡ true
  part_among [] q (i, l, e) = absurd (omega (arith, l))
  part_among (x ∷ xs) q (zero, l, e) = ap (λ b. b || is_among (map (λ z. z.process.name) xs) q.process.name) (ap (λ (z : Part). z.process.name.0 == q.process.name.0) e ∙ true_eq q.process.name.0)
  part_among (x ∷ xs) q (suc i, l, e) = or_rights (x.process.name.0 == q.process.name.0) _ (part_among xs q (i, omega (arith, l), e))

  behind : (xs ys : List NameId) (x : NameId) → is_among ys x ≡ true → is_among (xs ++ ys) x ≡ true
  behind [] ys x h = h
  behind (z ∷ zs) ys x h = or_rights (z.0 == x.0) _ (behind zs ys x h)

  -- a new process knows its role after the start
  service_knows : (scope : Scope) (e : Environment) → KeepsOwners scope e → (c k : Written) (active serve : List Part) → IsNamedStart f scope e c.name k.name active serve → first_failed (statement_checks f e (Starts c k active serve)) ≡ None
      → (q : Part) → Contains serve q → Knows q.process.name (with_role (λ y. None) k.name.0 (Some q.role.name)) (after_statement f e (Starts c k active serve))
  service_knows scope e t c k active serve w h q m = λ s a i. go s a (k.name.0 == s.0) refl i
    where
      differ : all_differ (map (λ q. q.process.name) (active ++ serve)) ≡ true
      differ = asked (all_differ (map (λ q. q.process.name) (active ++ serve))) T9 (first_passes (ask (all_differ (map (λ q. q.process.name) (active ++ serve))) T9) [] h).0

      go : (s a : NameId) (b : Bool) → (k.name.0 == s.0) ≡ b → holder_of (e.owners ++ started k.name (active ++ serve)) s a ≡ Some q.process.name → with_role (λ y. None) k.name.0 (Some q.role.name) s.0 ≡ Some a
      go s a true i h =
          let there : holder_of (started k.name (active ++ serve)) k.name a ≡ Some q.process.name =
          sym (holder_new e.owners k.name (active ++ serve) a (t.held k.name a w.free)) ∙ ap (λ x. holder_of (e.owners ++ started k.name (active ++ serve)) x a) (same_name k.name s i) ∙ h in
          ap (λ (b : Bool). if b then Some q.role.name else None) i ∙ ap Some (sym (part_role k.name (active ++ serve) differ q (in_front active serve q m) a there))
      go s a false i h = absurd (clash (t.in_scope s a q.process.name (sym (holder_other e.owners k.name (active ++ serve) s a i) ∙ h)) (none_of scope.processes serve w.new q.process.name (part_among serve q m)))

  services_hold_at : (scope : Scope) (e : Environment) → KeepsOwners scope e → (s : Statement) (next : Block) → NamesKept f scope e s → first_failed (statement_checks f e s) ≡ None → IsFaultless f (scope_with scope s) (after_statement f e s) next
      → ServicesHoldAt f.procs (node_of s) (choreography_of next)
  services_hold_at scope e t (Starts c k active serve) next w h rest =
      each_holds k.name (choreography_of next) serve (λ q m.
      block_holds f apart q.process.name next (scope_with scope (Starts c k active serve)) (after_statement f e (Starts c k active serve)) rest (statement_owned f scope e t (Starts c k active serve) w h).keeps
      (behind scope.processes (map (λ z. z.process.name) serve) q.process.name (part_among serve q m))
      (with_role (λ y. None) k.name.0 (Some q.role.name)) (service_knows scope e t c k active serve w h q m))
  services_hold_at scope e t (Sends a x b y k) next w h rest = tt
  services_hold_at scope e t (Selects a b k l) next w h rest = tt
  services_hold_at scope e t (Gives a b k given) next w h rest = tt
  services_hold_at scope e t (Sets p y x) next w h rest = tt
  services_hold_at scope e t (Asks p y g x z) next w h rest = tt
  services_hold_at scope e t (Shows p x) next w h rest = tt

  -- In a block without fault each service holds its role after each start
  services_hold : (b : Block) (scope : Scope) (e : Environment) → IsFaultless f scope e b → KeepsOwners scope e → ServicesHold f.procs (choreography_of b)
  services_hold (Then place s next) scope e (names, rule, rest) t =
      (services_hold_at scope e t s next names rule rest, services_hold next (scope_with scope s) (after_statement f e s) rest (statement_owned f scope e t s names rule).keeps)
  services_hold (Either place p x first second) scope e (names, rule, one, other) t = (services_hold first scope e one t, services_hold second scope e other t)
  services_hold (Calls place c ps ks) scope e ok t = tt
  services_hold (Ends place) scope e ok t = tt

-- ---- files

module _ (f : File) (words : List (List ℕ)) (ok : IsAccepted f words) where
  apart : (h : NameId) (p : Proc) → procedure_of f h ≡ Some p → all_differ (map (λ q. q.name.name) p.params) ≡ true
  apart h p is = params_apart f words ok p (found_in (λ z. z.name) f.procs h p is)

  named_there : (h : NameId) (x : Proc) → proc_named f.procs h ≡ Some x → procedure_of f h ≡ Some x
  named_there h x i = sym (proc_same f.procs h) ∙ i

  main_holds : MainHolds f
  main_holds p w i =
      subst (λ c. HoldsRoles f.procs w.name c (λ y. None)) (sym (choreography_at f.tree.nodes f.body))
      (block_holds f apart w.name (body_of f f.body) (scope_of_main f) at_main (main_faultless f words ok.names ok.protocols ok.types) (main_keeps f) (process_among f.processes p w i) (λ y. None) (λ k a h. absurd (nothing h)))
    where
      nothing : {q : NameId} → None ≡ Some q → ⊥
      nothing h = cc

  procedures_hold : ProceduresHold f
  procedures_hold h p x i j =
      let is = named_there h x i in
      let keep = procedures_keep f words ok.names ok.protocols ok.types in
      let m = found_in (λ z. z.name) f.procs h x is in
      subst (λ c. HoldsRoles f.procs p c (roles_of p x.sessions)) (sym (choreography_at f.tree.nodes x.body))
      (block_holds f apart p (body_of f x.body) (scope_of_procedure x) (at_procedure x) (keep.bodies h x is) (body_keeps f words ok h x is) (has_among p (params_of x) j) (roles_of p x.sessions)
      (λ k a t. head_knows x.sessions (keep.proper h x is).sessions (head_fine f words ok.names ok.protocols ok.types x m) p k a t))

  main_services : ServicesHold f.procs (body_at f f.body)
  main_services = subst (ServicesHold f.procs) (sym (choreography_at f.tree.nodes f.body)) (services_hold f apart (body_of f f.body) (scope_of_main f) at_main (main_faultless f words ok.names ok.protocols ok.types) (main_keeps f))

  procedure_services : AllServicesHold f
  procedure_services h x i =
      let is = named_there h x i in
      let keep = procedures_keep f words ok.names ok.protocols ok.types in
      subst (ServicesHold f.procs) (sym (choreography_at f.tree.nodes x.body)) (services_hold f apart (body_of f x.body) (scope_of_procedure x) (at_procedure x) (keep.bodies h x is) (body_keeps f words ok h x is))

  -- Everybody holds its roles
  pub holds_its_roles : HoldsItsRoles f
  holds_its_roles = record { procedures = procedures_hold; main = main_holds; starts = main_services; procedure_starts = procedure_services }
