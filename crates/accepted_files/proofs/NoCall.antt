-- The code of a guarded parameter doesn't begin with a call.
use Rattle.std.proofs.Common.{◌≡◌, ℕ, ◌==◌, ◌&&◌, ◌||◌, ◌++◌, Bool, true, false, if◌then◌else◌, List, [], ◌∷◌, Option, Some, None, refl, sym, ap, ◌∙◌, subst}
use Rattle.std.specs.Prelude.{map}
use Rattle.std.specs.List.{AllZip, AllByRecursion}
use Rattle.std.proofs.lemmas.Bool.{eqb-true}
use Rattle.chor_base.specs.declared.names.NameId.{NameId}
use Rattle.chor_tree.specs.declared.file.File.{File}
use Rattle.chor_tree.specs.declared.file.Proc.{Proc}
use Rattle.chor_tree.specs.declared.file.ProcParam.{ProcParam}
use Rattle.chor_semantics.specs.Choreography.{Ref, Live, Named, ref_eq, among, Content, OfValue, OfLabel, OfPart, Node, Starts, Communicates, InTransit, Alone, Choreography, Then}
use Rattle.chor_semantics.specs.Sources.{Procedure, procedure_from, procedures_of}
use Rattle.chor_semantics.specs.Steps.{procedure_named}
use Rattle.endpoint_code.specs.declared.endpoints.Procedure.{Procedure as ProcedureCode}
use Rattle.endpoint_code.specs.declared.endpoints.Endpoints.{Endpoints}
use Rattle.endpoint_code.specs.Faults.{begins_with_call}
use Rattle.endpoint_code.specs.Network.{procedure_of, node_at}
use Rattle.endpoint_code.specs.Trees as action
use Rattle.endpoint_code.specs.Trees.{CodeTree, code_at}
use Rattle.endpoint_code.specs.Above.{IsAbove}
use Rattle.merged_codes.proofs.NoCall.{IsNoCall, above_no_call, no_call_at}
use Rattle.projection.specs.Codes as codes
use Rattle.projection.specs.Codes.{is_named, part_in, param_for, proc_named, call_code, call_as, role_in, IsCodeOf, acts, learns, absent, decides, merges}
use Rattle.projection.specs.Projects.{Projects, IsProcedureOf, parameters_of, body_at}
use Rattle.projection.proofs.Branches.{first_of_both}
use Rattle.well_formed.specs.Guarded.{IsGuardedFor, AllGuarded}
use Rattle.well_formed.specs.SourceTrees.{IsName, AreNames, IsSource}
use Rattle.well_formed.specs.WellFormed.{names_in_scope}
use Rattle.well_formed.proofs.Trees.{body_source}
use Rattle.correspondence.specs.Premises.{NoCallFirst}
use Rattle.accepted_files.specs.Premises.{EachGuarded}

module _ (fs : List Proc) (r : NameId) where
  abbrev self : Ref
  self = Named r.0 0

  unnamed : (p : Ref) → is_named r p ≡ false → ref_eq self p ≡ false
  unnamed (Live n) h = refl
  unnamed (Named x d) h = ap (λ b. b && (0 == d)) h

  named : (p : Ref) → IsName p → ref_eq self p ≡ false → is_named r p ≡ false
  named (Live n) i h = refl
  named (Named x d) i h = go (r.0 == x) (sym (ap (λ b. (r.0 == x) && b) (ap (λ z. 0 == z) i)) ∙ h)
    where
      go : (b : Bool) → (b && (0 == 0)) ≡ false → b ≡ false
      go false e = refl
      go true e = absurd cc

  no_role : (qs : List (Ref × NameId)) → role_in r qs ≡ None → among self (map (λ p. p.0) qs) ≡ false
  no_role [] h = refl
  no_role (q ∷ qs) h = go (is_named r q.0) refl (no_role qs)
    where
      go : (b : Bool) → is_named r q.0 ≡ b → (role_in r qs ≡ None → among self (map (λ p. p.0) qs) ≡ false) → among self (map (λ p. p.0) (q ∷ qs)) ≡ false
      go true e more = let j : Some q.1 ≡ None = sym (ap (λ b. if b then Some q.1 else role_in r qs) e) ∙ h in absurd cc
      go false e more = ap (λ b. b || among self (map (λ p. p.0) qs)) (unnamed q.0 e) ∙ more (sym (ap (λ b. if b then Some q.1 else role_in r qs) e) ∙ h)

  -- a node that r has_name no part in doesn't name it
  no_part : (n : Node) → part_in r n ≡ codes.Absent → (case_of : Choreography) → IsGuardedFor self (Then n case_of) → IsSource (Then n case_of) → IsGuardedFor self case_of
  no_part (Starts c d k active serve) h rest g s = go (role_in r active) refl
    where
      go : (o : Option NameId) → role_in r active ≡ o → IsGuardedFor self rest
      go None i = g (no_role active i)
      go (Some a) i = let j : codes.Acts (action.Joins c a (record { 0 = k })) ≡ codes.Absent = sym (ap (codes.joins c k) i) ∙ h in absurd cc
  no_part (Communicates u p a q b w) h rest g s = go (is_named r p) (is_named r q) refl refl w h
    where
      receives : (w : Content) → codes.receives (codes.name_of u) a w ≡ codes.Absent → ⊥
      receives (OfValue e x) i = cc
      receives (OfLabel l) i = cc
      receives (OfPart z y) i = cc

      go : (i j : Bool) → is_named r p ≡ i → is_named r q ≡ j → (w : Content) → part_in r (Communicates u p a q b w) ≡ codes.Absent → IsGuardedFor self rest
      go true j e f w h = let k : codes.Acts (codes.sends (codes.name_of u) b w) ≡ codes.Absent = sym (ap (λ c. if c then codes.Acts (codes.sends (codes.name_of u) b w) else (if is_named r q then codes.receives (codes.name_of u) a w else codes.Absent)) e) ∙ h in absurd cc
      go false true e f w h = absurd (receives w (sym (ap (λ c. if c then codes.Acts (codes.sends (codes.name_of u) b w) else (if is_named r q then codes.receives (codes.name_of u) a w else codes.Absent)) e ∙ ap (λ c. if c then codes.receives (codes.name_of u) a w else codes.Absent) f) ∙ h))
      go false false e f w h = g (ap (λ c. c || (ref_eq self q || false)) (unnamed p e) ∙ ap (λ c. c || false) (unnamed q f))
  no_part (InTransit t a b m q) h rest g s = absurd s.0
  no_part (Alone p o) h rest g s = go (is_named r p) refl
    where
      go : (b : Bool) → is_named r p ≡ b → IsGuardedFor self rest
      go true e = let k : codes.Acts (codes.acts_alone o) ≡ codes.Absent = sym (ap (λ c. if c then codes.Acts (codes.acts_alone o) else codes.Absent) e) ∙ h in absurd cc
      go false e = g (ap (λ c. c || false) (unnamed p e))

  not_passed : (xs : List ProcParam) (qs : List Ref) → AreNames qs → among self qs ≡ false → param_for r xs qs ≡ None
  not_passed [] qs i h = refl
  not_passed (x ∷ xs) [] i h = refl
  not_passed (x ∷ xs) (q ∷ qs) i h =
      let z = parts (ref_eq self q) (among self qs) h in
      ap (λ b. if b then Some x.name.name else param_for r xs qs) (named q i.0 z.0) ∙ not_passed xs qs i.1 z.1
    where
      parts : (a b : Bool) → (a || b) ≡ false → (a ≡ false) × (b ≡ false)
      parts false b h = (refl, h)
      parts true b h = absurd cc

  no_call : (c : Choreography) (t : CodeTree) → IsSource c → IsGuardedFor self c → IsCodeOf fs r c t → IsNoCall t
  no_call c t s g (acts f h) = tt
  no_call c t s g (learns f h) = tt
  no_call c t s g (absent {n = n} {rest = rest} f h) = no_call rest t s.1 (no_part n f rest g s) h
  no_call c t s g (decides f a b) = tt
  no_call c t s g (merges {p = p} {first = x} {second = y} {c = c1} {d = d1} f a b l) = above_no_call (first_of_both (IsAbove t) c1 d1 l.above) (no_call x c1 s.1 (g (unnamed p f)).0 a)
  no_call c t s g (codes.calls {f = f} {qs = qs} {ss = ss} i) = subst IsNoCall (sym i) (go (proc_named fs f))
    where
      go : (o : Option Proc) → IsNoCall (call_code r f qs ss o)
      go None = tt
      go (Some x) = subst (λ o. IsNoCall (call_as f x ss o)) (sym (not_passed x.params qs s.0 g)) tt
  no_call c t s g codes.ends = tt

module _ (f : File) (e : Endpoints) where
  pub no_call_first : Projects f e → EachGuarded f → NoCallFirst e
  no_call_first pr guarded h p q i = go (parameters_of f.procs) e.procedures pr.procedures guarded i
    where
      go : (zs : List (Proc × ProcParam)) (qs : List ProcedureCode) → AllZip (IsProcedureOf f e) zs qs → AllByRecursion (λ z. IsGuardedFor (Named z.1.name.name.0 0) (body_at f z.0.body)) zs → procedure_of qs h p ≡ Some q → begins_with_call (node_at e q.body) ≡ false
      go [] [] a g i = absurd cc
      go [] (y ∷ ys) a g i = absurd a
      go (z ∷ zs) [] a g i = absurd a
      go (z ∷ zs) (y ∷ ys) a g i = at ((y.name.0 == h.0) && (y.param.0 == p.0)) refl (go zs ys a.1 g.1)
        where
          at : (b : Bool) → ((y.name.0 == h.0) && (y.param.0 == p.0)) ≡ b → (procedure_of ys h p ≡ Some q → begins_with_call (node_at e q.body) ≡ false) → begins_with_call (node_at e q.body) ≡ false
          at true u more =
              let j : Some y ≡ Some q = sym (ap (λ b. if b then Some y else procedure_of ys h p) u) ∙ i in
              let k : y ≡ q = cc in
              subst (λ (v : ProcedureCode). begins_with_call (node_at e v.body) ≡ false) k (no_call_at e y.body (no_call f.procs z.1.name.name (body_at f z.0.body) (code_at e.code.nodes y.body) (body_source f z.0.body) g.0 a.0.body))
          at false u more = more (sym (ap (λ b. if b then Some y else procedure_of ys h p) u) ∙ i)

-- each parameter of a found procedure
at_param : (x : Proc) (B : Choreography) (y : ℕ) (ps : List ProcParam) (rest : List (Proc × ProcParam)) (P : Proc × ProcParam → Type 0) → ((q : ProcParam) → P (x, q) → IsGuardedFor (Named q.name.name.0 0) B) → AllByRecursion P (map (λ q. (x, q)) ps ++ rest) → among (Named y 0) (names_in_scope (map (λ q. q.name.name) ps)) ≡ true → IsGuardedFor (Named y 0) B
at_param x B y [] rest P use_it a h = absurd cc
at_param x B y (q ∷ qs) rest P use_it a h = go (y == q.name.name.0) refl (at_param x B y qs rest P use_it a.1)
  where
    test : (y == q.name.name.0) ≡ false → (ref_eq (Named y 0) (Named q.name.name.0 0) || among (Named y 0) (names_in_scope (map (λ q. q.name.name) qs))) ≡ among (Named y 0) (names_in_scope (map (λ q. q.name.name) qs))
    test e = ap (λ b. (b && (0 == 0)) || among (Named y 0) (names_in_scope (map (λ q. q.name.name) qs))) e

    go : (b : Bool) → (y == q.name.name.0) ≡ b → (among (Named y 0) (names_in_scope (map (λ q. q.name.name) qs)) ≡ true → IsGuardedFor (Named y 0) B) → IsGuardedFor (Named y 0) B
    go true e more = subst (λ z. IsGuardedFor (Named z 0) B) (sym (eqb-true y q.name.name.0 e)) (use_it q a.0)
    go false e more = more (sym (test e) ∙ h)

past : {X : Type 0} (P : X → Type 0) (xs ys : List X) → AllByRecursion P (xs ++ ys) → AllByRecursion P ys
past P [] ys h = h
past P (x ∷ xs) ys h = past P xs ys h.1

pub all_guarded : (f : File) → EachGuarded f → AllGuarded (procedures_of f)
all_guarded f guarded h q found y inside = go f.procs guarded found
  where
    go : (xs : List Proc) → AllByRecursion (λ z. IsGuardedFor (Named z.1.name.name.0 0) (body_at f z.0.body)) (parameters_of xs) → procedure_named (map (procedure_from f.tree.nodes) xs) h ≡ Some q → IsGuardedFor (Named y 0) q.body
    go [] g i = absurd cc
    go (x ∷ xs) g i = at (x.name.name.0 == h.0) refl (go xs)
      where
        at : (b : Bool) → (x.name.name.0 == h.0) ≡ b → (AllByRecursion (λ z. IsGuardedFor (Named z.1.name.name.0 0) (body_at f z.0.body)) (parameters_of xs) → procedure_named (map (procedure_from f.tree.nodes) xs) h ≡ Some q → IsGuardedFor (Named y 0) q.body) → IsGuardedFor (Named y 0) q.body
        at true u more =
            let j : Some (procedure_from f.tree.nodes x) ≡ Some q = sym (ap (λ b. if b then Some (procedure_from f.tree.nodes x) else procedure_named (map (procedure_from f.tree.nodes) xs) h) u) ∙ i in
            let k : procedure_from f.tree.nodes x ≡ q = cc in
            let known : among (Named y 0) (names_in_scope (map (λ q. q.name.name) x.params)) ≡ true = subst (λ (v : Procedure). among (Named y 0) (names_in_scope v.params) ≡ true) (sym k) inside in
            subst (λ (v : Procedure). IsGuardedFor (Named y 0) v.body) k
            (at_param x (body_at f x.body) y x.params (parameters_of xs) (λ z. IsGuardedFor (Named z.1.name.name.0 0) (body_at f z.0.body)) (λ q w. w) g known)
        at false u more = more (past (λ z. IsGuardedFor (Named z.1.name.name.0 0) (body_at f z.0.body)) (map (λ p. (x, p)) x.params) (parameters_of xs) g) (sym (ap (λ b. if b then Some (procedure_from f.tree.nodes x) else procedure_named (map (procedure_from f.tree.nodes) xs) h) u) ∙ i)
