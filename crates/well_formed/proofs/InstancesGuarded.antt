-- Who isn't passed isn't named in a body, nothing is in transit there, and it is guarded.
use Rattle.std.proofs.Common.{◌≡◌, ℕ, suc, Bool, true, false, List, [], ◌∷◌, refl, sym, ap, ◌∙◌, subst, if◌then◌else◌, ◌==◌, ◌||◌, arith}
use Rattle.std.specs.Prelude.{map}
use Rattle.std.proofs.lemmas.Bool.{eqb-false}
use Rattle.chor_base.specs.declared.names.NameId.{NameId}
use Rattle.chor_base.specs.Events.{Triple}
use Rattle.chor_semantics.specs.Choreography.{Ref, Live, Named, ref_eq, among, Starts, Communicates, InTransit, Alone, Choreography, Then, Either, Calls, Ends, put_content, bound, bound_served, named_by, instance_of}
use Rattle.chor_semantics.specs.Sources.{Procedure}
use Rattle.endpoint_code.specs.declared.endpoints.Channel.{Channel}
use Rattle.well_formed.specs.WellFormed.{Scope, IsIn, AllIn, AllNew, entered, firsts, scope_after, IsWellFormed}
use Rattle.well_formed.specs.Guarded.{IsGuardedFor}
use Rattle.well_formed.specs.Transit.{is_on, AreInTransitAt, AreInTransit}
use Rattle.well_formed.proofs.Absent.{IsNoDeeper, IsAbsent}
use Rattle.well_formed.specs.SourceTrees.{IsName, AreNames, IsSource}
use Rattle.well_formed.proofs.References.{left_or, right_or, or_false, or_left, or_rights, clash, self_ref, differ_ref}
use Rattle.well_formed.proofs.Instances.{firsts_instance, names_of_parts}

-- ---- who isn't passed isn't there

module _ (ks : List Channel) (procs : List Procedure) (d : ℕ) (p : Ref) (young : IsNoDeeper d p) where
  not_bound : (y : ℕ) → ref_eq p (Named y (suc d)) ≡ false
  not_bound y = differ_ref p (Named y (suc d)) (λ e. deep p young e)
    where
      plain : (x c : ℕ) → Named x c ≡ Named y (suc d) → c ≡ suc d
      plain x c e = cc

      deep : (p : Ref) → IsNoDeeper d p → p ≡ Named y (suc d) → ⊥
      deep (Live n) h e = cc
      deep (Named x c) h e = let w = plain x c e in absurd (omega (arith, w, h))

  abbrev Avoids : (ℕ → Ref) → List Ref → Type 0
  Avoids F bs0 = (x : ℕ) → among (Named x 0) bs0 ≡ true → ref_eq p (F x) ≡ false

  avoids_more : (F : ℕ → Ref) (bs0 : List Ref) (y : ℕ) → Avoids F bs0 → Avoids (bound y (Named y (suc d)) F) (Named y 0 ∷ bs0)
  avoids_more F bs0 y a x h = go (y == x) refl
    where
      rest : (y == x) ≡ false → among (Named x 0) bs0 ≡ true
      rest e = other (ref_eq (Named x 0) (Named y 0)) (differ_ref (Named x 0) (Named y 0) (λ v. eqb-false y x e (sym (plain v)))) h
        where
          plain : Named x 0 ≡ Named y 0 → x ≡ y
          plain v = cc

          other : (b : Bool) → b ≡ false → (b || among (Named x 0) bs0) ≡ true → among (Named x 0) bs0 ≡ true
          other false i j = j
          other true i j = absurd cc

      go : (b : Bool) → (y == x) ≡ b → ref_eq p (if b then Named y (suc d) else F x) ≡ false
      go true e = not_bound y
      go false e = a x (rest e)

  avoids_all : (F : ℕ → Ref) (bs0 : List Ref) (ss : List (ℕ × NameId)) → Avoids F bs0 → Avoids (bound_served (suc d) ss F) (entered 0 ss bs0)
  avoids_all F bs0 [] a = a
  avoids_all F bs0 (t ∷ ss) a = avoids_all (bound t.0 (Named t.0 (suc d)) F) (Named t.0 0 ∷ bs0) ss (avoids_more F bs0 t.0 a)

  one_away : (F : ℕ → Ref) (bs0 : List Ref) → Avoids F bs0 → (r : Ref) → IsName r → IsIn 0 bs0 r → ref_eq p (named_by F r) ≡ false
  one_away F bs0 a (Live m) i h = absurd i
  one_away F bs0 a (Named x c) i h = a x (ap (λ z. among (Named x z) bs0) (sym i) ∙ h)

  all_away : (F : ℕ → Ref) (bs0 : List Ref) → Avoids F bs0 → (rs : List Ref) → AreNames rs → AllIn 0 bs0 rs → among p (map (named_by F) rs) ≡ false
  all_away F bs0 a [] i h = refl
  all_away F bs0 a (r ∷ rs) i h = or_false _ _ (one_away F bs0 a r i.0 h.0) (all_away F bs0 a rs i.1 h.1)

  no_deeper_more : (p : Ref) → IsNoDeeper d p → IsNoDeeper (suc d) p
  no_deeper_more (Live n) h = tt
  no_deeper_more (Named x c) h = omega (arith, h)

  pub absent_instance : (F G : ℕ → Ref) (sc : Scope) → sc.pid ≡ 0 → Avoids F sc.processes → (c : Choreography) → IsSource c → IsWellFormed ks procs sc c → IsAbsent p (instance_of (suc d) F G c)
  absent_instance F G sc z a (Then (Starts c e k active serve) rest) i w =
      let known : AllIn 0 sc.processes (firsts active) = subst (λ y. AllIn y sc.processes (firsts active)) z w.0.known in
      let zero' : e ≡ 0 = i.0.0 in
      (subst (λ y. among p y ≡ false) (sym (firsts_instance F active)) (all_away F sc.processes a (firsts active) (names_of_parts active i.0.1) known), absent_instance (bound_served (suc d) serve F) (bound k (Named k (suc d)) G) (scope_after sc (Starts c e k active serve)) z (subst (λ y. Avoids (bound_served (suc d) serve F) (entered y serve sc.processes)) (sym zero') (avoids_all F sc.processes serve a)) rest i.1 w.1)
  absent_instance F G sc z a (Then (Communicates u q b r b' x) rest) i w =
      (or_false _ _ (one_away F sc.processes a q i.0.1 (subst (λ y. IsIn y sc.processes q) z w.0.sender)) (or_false _ _ (one_away F sc.processes a r i.0.2 (subst (λ y. IsIn y sc.processes r) z w.0.receiver)) refl), absent_instance F G sc z a rest i.1 w.1)
  absent_instance F G sc z a (Then (InTransit u b b' m q) rest) i w = absurd i.0
  absent_instance F G sc z a (Then (Alone q o) rest) i w = (or_false _ _ (one_away F sc.processes a q i.0 (subst (λ y. IsIn y sc.processes q) z w.0.0)) refl, absent_instance F G sc z a rest i.1 w.1)
  absent_instance F G sc z a (Either q e x y) i w = (one_away F sc.processes a q i.0 (subst (λ y. IsIn y sc.processes q) z w.0.0), absent_instance F G sc z a x i.1 w.1, absent_instance F G sc z a y i.2 w.2)
  absent_instance F G sc z a (Calls h e qs us) i w = (all_away F sc.processes a qs i.0 (subst (λ y. AllIn y sc.processes qs) z w.processes), no_deeper_more p young)
  absent_instance F G sc z a Ends i w = tt

-- ---- nothing is in transit in a body

pub source_empty : (t : Triple) (d : ℕ) (F G : ℕ → Ref) (c : Choreography) → IsSource c → AreInTransit t (instance_of d F G c) []
source_empty t d F G (Then (Starts c e k active serve) rest) i = source_empty t d (bound_served d serve F) (bound k (Named k d) G) rest i.1
source_empty t d F G (Then (Communicates u q b r b' x) rest) i = go (is_on t (Communicates (named_by G u) (named_by F q) b (named_by F r) b' (put_content (named_by G) x))) (source_empty t d F G rest i.1)
  where
    go : (y : Bool) → AreInTransit t (instance_of d F G rest) [] → AreInTransitAt (Communicates (named_by G u) (named_by F q) b (named_by F r) b' (put_content (named_by G) x)) y (AreInTransit t (instance_of d F G rest)) []
    go true h = (refl, h)
    go false h = h
source_empty t d F G (Then (InTransit u b b' m q) rest) i = absurd i.0
source_empty t d F G (Then (Alone q o) rest) i = source_empty t d F G rest i.1
source_empty t d F G (Either q e x y) i = (source_empty t d F G x i.1, source_empty t d F G y i.2)
source_empty t d F G (Calls h e qs us) i = refl
source_empty t d F G Ends i = refl

-- ---- guarded

module _ (ks : List Channel) (procs : List Procedure) (d : ℕ) (p : ℕ) where
  -- each name in scope that stands for p is guarded
  abbrev Guards : (ℕ → Ref) → List Ref → Choreography → Type 0
  Guards F bs0 c = (x : ℕ) → among (Named x 0) bs0 ≡ true → F x ≡ Live p → IsGuardedFor (Named x 0) c

  among_instance : (F : ℕ → Ref) (x : ℕ) → F x ≡ Live p → (rs : List Ref) → AreNames rs → among (Live p) (map (named_by F) rs) ≡ false → among (Named x 0) rs ≡ false
  among_instance F x e [] i h = refl
  among_instance F x e (Live m ∷ rs) i h = absurd i.0
  among_instance F x e (Named y c ∷ rs) i h = or_false _ _ (differ_ref (Named x 0) (Named y c) (λ z. clash (ap (ref_eq (Live p)) (ap F (sym (plain z)) ∙ e) ∙ self_ref (Live p)) (left_or _ _ h))) (among_instance F x e rs i.1 (right_or _ _ h))
    where
      plain : Named x 0 ≡ Named y c → x ≡ y
      plain z = cc

  still_guards : (F : ℕ → Ref) (bs0 : List Ref) (y : ℕ) (c : Choreography) → among (Named y 0) bs0 ≡ false → Guards F bs0 c → Guards (bound y (Named y d) F) (Named y 0 ∷ bs0) c
  still_guards F bs0 y c fresh g x h e = go (y == x) refl e
    where
      rest : (y == x) ≡ false → among (Named x 0) bs0 ≡ true
      rest e' = other (ref_eq (Named x 0) (Named y 0)) (differ_ref (Named x 0) (Named y 0) (λ v. eqb-false y x e' (sym (plain v)))) h
        where
          plain : Named x 0 ≡ Named y 0 → x ≡ y
          plain v = cc

          other : (b : Bool) → b ≡ false → (b || among (Named x 0) bs0) ≡ true → among (Named x 0) bs0 ≡ true
          other false i j = j
          other true i j = absurd cc

      go : (b : Bool) → (y == x) ≡ b → (if b then Named y d else F x) ≡ Live p → IsGuardedFor (Named x 0) c
      go true i j = absurd cc
      go false i j = g x (rest i) j

  still_all : (F : ℕ → Ref) (bs0 : List Ref) (ss : List (ℕ × NameId)) (c : Choreography) → AllNew 0 ss bs0 → Guards F bs0 c → Guards (bound_served d ss F) (entered 0 ss bs0) c
  still_all F bs0 [] c h g = g
  still_all F bs0 (t ∷ ss) c h g = still_all (bound t.0 (Named t.0 d) F) (Named t.0 0 ∷ bs0) ss c h.1 (still_guards F bs0 t.0 c h.0 g)

  one_name : (F : ℕ → Ref) (x : ℕ) → F x ≡ Live p → (r : Ref) → IsName r → ref_eq (Live p) (named_by F r) ≡ false → ref_eq (Named x 0) r ≡ false
  one_name F x e (Live m) i h = absurd i
  one_name F x e (Named y c) i h = differ_ref (Named x 0) (Named y c) (λ z. clash (ap (ref_eq (Live p)) (ap F (sym (plain z)) ∙ e) ∙ self_ref (Live p)) h)
    where
      plain : Named x 0 ≡ Named y c → x ≡ y
      plain z = cc

  -- who is passed has a name in scope
  passed_name : (F : ℕ → Ref) (bs0 : List Ref) (rs all : List Ref) → ((r : Ref) → among r rs ≡ true → among r all ≡ true) → AreNames rs → AllIn 0 bs0 rs → ((x : ℕ) → among (Named x 0) bs0 ≡ true → F x ≡ Live p → among (Named x 0) all ≡ false) → among (Live p) (map (named_by F) rs) ≡ false
  passed_name F bs0 [] all j i h g = refl
  passed_name F bs0 (Live m ∷ rs) all j i h g = absurd i.0
  passed_name F bs0 (Named y b ∷ rs) all j i h g = or_false _ _ (differ_ref (Live p) (F y) (λ e. clash (j (Named y 0) (or_left _ _ (ap (λ z. ref_eq (Named y 0) (Named y z)) i.0 ∙ self_ref (Named y 0)))) (g y (ap (λ z. among (Named y z) bs0) (sym i.0) ∙ h.0) (sym e)))) (passed_name F bs0 rs all (λ r k. j r (or_rights _ _ k)) i.1 h.1 g)

  pub guarded_instance : (F G : ℕ → Ref) (sc : Scope) → sc.pid ≡ 0 → (c : Choreography) → IsSource c → IsWellFormed ks procs sc c → Guards F sc.processes c → IsGuardedFor (Live p) (instance_of d F G c)
  guarded_instance F G sc z (Then (Starts c e k active serve) rest) i w g = λ out.
      guarded_instance (bound_served d serve F) (bound k (Named k d) G) (scope_after sc (Starts c e k active serve)) z rest i.1 w.1
      (subst (λ y. Guards (bound_served d serve F) (entered y serve sc.processes) rest) (sym i.0.0) (still_all F sc.processes serve rest (subst (λ y. AllNew y serve sc.processes) i.0.0 w.0.new_processes)
      (λ x h j. g x h j (among_instance F x j (firsts active) (names_of_parts active i.0.1) (subst (λ y. among (Live p) y ≡ false) (firsts_instance F active) out)))))
  guarded_instance F G sc z (Then (Communicates u q b r b' t) rest) i w g = λ out.
      guarded_instance F G sc z rest i.1 w.1 (λ x h j. g x h j (or_false _ _ (one_name F x j q i.0.1 (left_or _ _ out)) (or_false _ _ (one_name F x j r i.0.2 (left_or _ _ (right_or (ref_eq (Live p) (named_by F q)) _ out))) refl)))
  guarded_instance F G sc z (Then (InTransit u b b' m q) rest) i w g = absurd i.0
  guarded_instance F G sc z (Then (Alone q o) rest) i w g = λ out.
      guarded_instance F G sc z rest i.1 w.1 (λ x h j. g x h j (or_false _ _ (one_name F x j q i.0 (left_or _ _ out)) refl))
  guarded_instance F G sc z (Either q e x y) i w g = λ out.
      (guarded_instance F G sc z x i.1 w.1 (λ t h j. (g t h j (one_name F t j q i.0 out)).0), guarded_instance F G sc z y i.2 w.2 (λ t h j. (g t h j (one_name F t j q i.0 out)).1))
  guarded_instance F G sc z (Calls h e qs us) i w g = passed_name F sc.processes qs qs (λ r k. k) i.0 (subst (λ y. AllIn y sc.processes qs) z w.processes) g
  guarded_instance F G sc z Ends i w g = tt
