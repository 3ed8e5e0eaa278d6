-- What a call passes.
use Rattle.std.proofs.Common.{◌≡◌, ℕ, ◌==◌, ◌||◌, Bool, true, false, if◌then◌else◌, List, [], ◌∷◌, Option, Some, None, refl, sym, ap, ◌∙◌, subst}
use Rattle.std.specs.Prelude.{map}
use Rattle.chor_base.specs.declared.names.NameId.{NameId}
use Rattle.chor_tree.specs.declared.file.Named.{Named as Written}
use Rattle.chor_tree.specs.declared.file.Proc.{Proc}
use Rattle.chor_tree.specs.declared.file.ProcParam.{ProcParam}
use Rattle.chor_tree.specs.declared.file.SessionParam.{SessionParam}
use Rattle.chor_tree.specs.declared.tree.Node.{Node as TreeNode}
use Rattle.chor_semantics.specs.Choreography.{Ref, Live, Named, ref_eq, among, Choreography, named_by}
use Rattle.chor_semantics.specs.Sources.{procedure_from}
use Rattle.chor_semantics.specs.Steps.{procedure_named, bound_all}
use Rattle.endpoint_code.specs.Trees.{CodeTree}
use Rattle.endpoint_code.specs.Labels.{HasDistinctLabels}
use Rattle.projection.specs.Codes.{is_named, proc_named, param_for, holds, sessions_for, passed_for, name_of, call_code, call_as, IsCodeOf, acts, learns, absent, decides, merges, calls, ends}
use Rattle.well_formed.specs.Follows.{SessionMap, passed, passed_one}
use Rattle.accepted_files.proofs.AlongTrees.{self_test}
use Rattle.accepted_files.specs.PlayedRoles.{Roles, holder_role, roles_of, has_name}
use Rattle.accepted_files.proofs.Plays.{IsPassedFor, IsNotPassed, PassesRoles, TellsApart, Knows}
use Rattle.accepted_files.proofs.Passed.{IsPassedAs}

-- the procedure of that name
pub found_proc : (nodes : List TreeNode) (fs : List Proc) (h : NameId) (x : Proc) → proc_named fs h ≡ Some x → procedure_named (map (procedure_from nodes) fs) h ≡ Some (procedure_from nodes x)
found_proc nodes [] h x i = absurd cc
found_proc nodes (y ∷ ys) h x i = go (y.name.name.0 == h.0) refl (found_proc nodes ys h x)
  where
    go : (b : Bool) → (y.name.name.0 == h.0) ≡ b → (proc_named ys h ≡ Some x → procedure_named (map (procedure_from nodes) ys) h ≡ Some (procedure_from nodes x)) → procedure_named (map (procedure_from nodes) (y ∷ ys)) h ≡ Some (procedure_from nodes x)
    go true e more =
        let j : Some y ≡ Some x = sym (ap (λ b. if b then Some y else proc_named ys h) e) ∙ i in
        let z : y ≡ x = cc in
        ap (λ b. if b then Some (procedure_from nodes y) else procedure_named (map (procedure_from nodes) ys) h) e ∙ ap (λ (w : Proc). Some (procedure_from nodes w)) z
    go false e more = ap (λ b. if b then Some (procedure_from nodes y) else procedure_named (map (procedure_from nodes) ys) h) e ∙ more (sym (ap (λ b. if b then Some y else proc_named ys h) e) ∙ i)

-- what r is passed for is a parameter
pub param_in : (r p : NameId) (xs : List ProcParam) (qs : List Ref) → param_for r xs qs ≡ Some p → has_name p (map (λ q. q.name.name) xs) ≡ true
param_in r p [] qs i = absurd cc
param_in r p (x ∷ xs) [] i = absurd cc
param_in r p (x ∷ xs) (q ∷ qs) i = go (is_named r q) refl (param_in r p xs qs)
  where
    under : (b : Bool) → has_name p (map (λ q. q.name.name) xs) ≡ true → (if b then true else has_name p (map (λ q. q.name.name) xs)) ≡ true
    under true w = refl
    under false w = w

    go : (b : Bool) → is_named r q ≡ b → (param_for r xs qs ≡ Some p → has_name p (map (λ q. q.name.name) xs) ≡ true) → has_name p (map (λ q. q.name.name) (x ∷ xs)) ≡ true
    go true e more =
        let j : Some x.name.name ≡ Some p = sym (ap (λ b. if b then Some x.name.name else param_for r xs qs) e) ∙ i in
        let z : x.name.name ≡ p = cc in
        ap (λ (b : Bool). if b then true else has_name p (map (λ q. q.name.name) xs)) (ap (λ (w : NameId). p.0 == w.0) z ∙ self_test p.0)
    go false e more = under (p.0 == x.name.name.0) (more (sym (ap (λ b. if b then Some x.name.name else param_for r xs qs) e) ∙ i))

-- as references
pub passed_as : (r p : NameId) (P : Ref) (f : ℕ → Ref) (xs : List ProcParam) (qs : List Ref) → TellsApart r P f → IsPassedFor r p xs qs → IsPassedAs P p (map (λ q. q.name.name) xs) (map (named_by f) qs)
passed_as r p P f [] [] apart h = tt
passed_as r p P f [] (q ∷ qs) apart h = absurd h
passed_as r p P f (x ∷ xs) [] apart h = absurd h
passed_as r p P f (x ∷ xs) (Named y k ∷ qs) apart h = (apart y ∙ h.1, passed_as r p P f xs qs apart h.2)
passed_as r p P f (x ∷ xs) (Live n ∷ qs) apart h = absurd h.0

pub among_passed : (r p a : NameId) (P : Ref) (f : ℕ → Ref) (xs : List ProcParam) (qs : List Ref) → TellsApart r P f → IsPassedFor r a xs qs → param_for r xs qs ≡ Some p → among P (map (named_by f) qs) ≡ true
among_passed r p a P f [] qs apart h i = absurd cc
among_passed r p a P f (x ∷ xs) [] apart h i = absurd cc
among_passed r p a P f (x ∷ xs) (Live n ∷ qs) apart h i = absurd h.0
among_passed r p a P f (x ∷ xs) (Named y k ∷ qs) apart h i = go (r.0 == y) refl (among_passed r p a P f xs qs apart h.2)
  where
    under : (b c : Bool) → c ≡ true → (b || c) ≡ true
    under true c w = refl
    under false c w = w

    go : (b : Bool) → (r.0 == y) ≡ b → (param_for r xs qs ≡ Some p → among P (map (named_by f) qs) ≡ true) → (ref_eq P (f y) || among P (map (named_by f) qs)) ≡ true
    go true e more = ap (λ b. b || among P (map (named_by f) qs)) (apart y ∙ e)
    go false e more = under (ref_eq P (f y)) (among P (map (named_by f) qs)) (more (sym (ap (λ b. if b then Some x.name.name else param_for r xs qs) e) ∙ i))

pub not_among : (r : NameId) (P : Ref) (f : ℕ → Ref) (qs : List Ref) → TellsApart r P f → IsNotPassed r qs → among P (map (named_by f) qs) ≡ false
not_among r P f [] apart h = refl
not_among r P f (Named y k ∷ qs) apart h = ap (λ b. b || among P (map (named_by f) qs)) (apart y ∙ h.1) ∙ not_among r P f qs apart h.2
not_among r P f (Live n ∷ qs) apart h = absurd h.0

-- a listed role is a holder's
listed : (p t : NameId) (hs : List (Written × Written)) → holder_role p hs ≡ Some t → holds p hs ≡ true
listed p t [] i = absurd cc
listed p t (h ∷ hs) i = go (h.1.name.0 == p.0) refl (listed p t hs)
  where
    go : (b : Bool) → (h.1.name.0 == p.0) ≡ b → (holder_role p hs ≡ Some t → holds p hs ≡ true) → ((h.1.name.0 == p.0) || holds p hs) ≡ true
    go true e more = ap (λ b. b || holds p hs) e
    go false e more = ap (λ b. b || holds p hs) e ∙ more (sym (ap (λ b. if b then Some h.0.name else holder_role p hs) e) ∙ i)

-- the passed sessions are known under the parameters' names
pub knows_passed : (g : Roles) (m : SessionMap) (s : ℕ → Ref) (p : NameId) (d : ℕ) → Knows g m s → (ks : List SessionParam) (ss : List Ref) → PassesRoles g p ks ss
    → Knows (roles_of p ks) (passed (sessions_for p ks) (passed_for p ks ss) m) (bound_all d (map (λ k. k.name.name) ks) (map (named_by s) ss))
knows_passed g m s p d knows [] [] h y t i = absurd cc
knows_passed g m s p d knows [] (q ∷ qs) h y t i = absurd h
knows_passed g m s p d knows (k ∷ ks) [] h y t i = absurd h
knows_passed g m s p d knows (k ∷ ks) (Live n ∷ ss) h y t i = absurd h.0
knows_passed g m s p d knows (k ∷ ks) (Named z e ∷ ss) h y t i = go (k.name.name.0 == y) refl (holds p k.holders) refl (knows_passed g m s p d knows ks ss h.2 y t)
  where
    names : List NameId
    names = map (λ k. k.name.name) ks

    refs : List Ref
    refs = map (named_by s) ss

    m_in : SessionMap
    m_in = passed (sessions_for p ks) (passed_for p ks ss) m

    Wanted : Bool → Bool → Type 0
    Wanted b c = passed (if c then k.name.name ∷ sessions_for p ks else sessions_for p ks) (if c then name_of (Named z e) ∷ passed_for p ks ss else passed_for p ks ss) m y ≡ Some ((if b then s z else bound_all d names refs y), t)

    put_back : (b c : Bool) → (k.name.name.0 == y) ≡ b → holds p k.holders ≡ c → Wanted b c → Wanted (k.name.name.0 == y) (holds p k.holders)
    put_back b c u v w = subst (λ b. Wanted b (holds p k.holders)) (sym u) (subst (Wanted b) (sym v) w)

    over : (o : Option (Ref × NameId)) → (k.name.name.0 == y) ≡ false → passed_one o k.name.name m_in y ≡ m_in y
    over None u = refl
    over (Some v) u = ap (λ b. if b then Some v else m_in y) u

    go : (b : Bool) → (k.name.name.0 == y) ≡ b → (c : Bool) → holds p k.holders ≡ c → (roles_of p ks y ≡ Some t → m_in y ≡ Some (bound_all d names refs y, t)) → Wanted (k.name.name.0 == y) (holds p k.holders)
    go true u true v more =
        let j : holder_role p k.holders ≡ Some t = sym (ap (λ b. if b then holder_role p k.holders else roles_of p ks y) u) ∙ i in
        let w : m z ≡ Some (s z, t) = knows z t (h.1 v ∙ j) in
        put_back true true u v (ap (λ (o : Option (Ref × NameId)). passed_one o k.name.name m_in y) w ∙ ap (λ b. if b then Some (s z, t) else m_in y) u)
    go true u false v more =
        let j : holder_role p k.holders ≡ Some t = sym (ap (λ b. if b then holder_role p k.holders else roles_of p ks y) u) ∙ i in
        let l : holds p k.holders ≡ true = listed p t k.holders j in absurd cc
    go false u true v more = put_back false true u v (over (m z) u ∙ more (sym (ap (λ b. if b then holder_role p k.holders else roles_of p ks y) u) ∙ i))
    go false u false v more = put_back false false u v (more (sym (ap (λ b. if b then holder_role p k.holders else roles_of p ks y) u) ∙ i))

-- no code has a label twice
pub code_distinct : (fs : List Proc) (r : NameId) (c : Choreography) (t : CodeTree) → IsCodeOf fs r c t → HasDistinctLabels t
code_distinct fs r c t (acts f h) = code_distinct fs r _ _ h
code_distinct fs r c t (learns f h) = (refl, code_distinct fs r _ _ h, tt)
code_distinct fs r c t (absent f h) = code_distinct fs r _ _ h
code_distinct fs r c t (decides f a b) = (code_distinct fs r _ _ a, code_distinct fs r _ _ b)
code_distinct fs r c t (merges f a b l) = l.distinct
code_distinct fs r c t (calls {f = f} {qs = qs} {ss = ss} i) = subst HasDistinctLabels (sym i) (called (proc_named fs f))
  where
    as_call : (h : Proc) (o : Option NameId) → HasDistinctLabels (call_as f h ss o)
    as_call h None = tt
    as_call h (Some p) = tt

    called : (o : Option Proc) → HasDistinctLabels (call_code r f qs ss o)
    called None = tt
    called (Some h) = as_call h (param_for r h.params qs)
code_distinct fs r c t ends = tt
