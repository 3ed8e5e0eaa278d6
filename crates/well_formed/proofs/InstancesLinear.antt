-- The body of a call is linear.
use Rattle.std.proofs.Common.{◌≡◌, ◌⊎◌, inl, inr, ℕ, suc, Bool, true, false, List, [], ◌∷◌, length, refl, sym, ap, ◌∙◌, subst, if◌then◌else◌, ◌==◌, ◌||◌, ◌&&◌}
use Rattle.std.specs.Prelude.{map}
use Rattle.std.proofs.lemmas.Bool.{eqb-true, eqb-false}
use Rattle.chor_base.specs.declared.names.NameId.{NameId}
use Rattle.chor_semantics.specs.Choreography.{Ref, Live, Named, ref_eq, among, Starts, Communicates, InTransit, Alone, Choreography, Then, Either, Calls, Ends, put_content, put_part, bound, bound_served, named_by, instance_of}
use Rattle.chor_semantics.specs.Sources.{Procedure}
use Rattle.chor_semantics.specs.Steps.{bound_all}
use Rattle.endpoint_code.specs.declared.endpoints.Channel.{Channel}
use Rattle.well_formed.specs.WellFormed.{Scope, IsIn, AllIn, AreDistinctRefs, AllNew, entered, firsts, service_refs, scope_after, IsWellFormed, names_in_scope}
use Rattle.well_formed.specs.Linear.{Members, ParameterSets, any_in, all_in, after_start, members_after, given, all_given, IsLinear}
use Rattle.well_formed.specs.SourceTrees.{IsName, AreNames, IsSource}
use Rattle.well_formed.proofs.References.{or_left, or_rights, or_case, and_first, and_second, true_and, clash, true_eq, same_ref, self_ref}
use Rattle.well_formed.proofs.Instances.{firsts_instance, names_of_parts, in_list}

-- ---- linear

module _ (ks : List Channel) (procs : List Procedure) (d : ℕ) (a : NameId) (sets : ParameterSets) where
  -- what is in the source's set is, by its name, in the other
  abbrev Inside : (ℕ → Ref) → List Ref → Members → Members → Type 0
  Inside F bs0 dep dep' = (x : ℕ) → among (Named x 0) bs0 ≡ true → dep (Named x 0) ≡ true → dep' (F x) ≡ true

  ref_inside : (F : ℕ → Ref) (bs0 : List Ref) (dep dep' : Members) → Inside F bs0 dep dep' → (r : Ref) → IsName r → IsIn 0 bs0 r → dep r ≡ true → dep' (named_by F r) ≡ true
  ref_inside F bs0 dep dep' j (Live m) i h k = absurd i
  ref_inside F bs0 dep dep' j (Named x c) i h k = j x (ap (λ z. among (Named x z) bs0) (sym i) ∙ h) (ap (λ z. dep (Named x z)) (sym i) ∙ k)

  any_inside : (F : ℕ → Ref) (bs0 : List Ref) (dep dep' : Members) → Inside F bs0 dep dep' → (rs : List Ref) → AreNames rs → AllIn 0 bs0 rs → any_in dep rs ≡ true → any_in dep' (map (named_by F) rs) ≡ true
  any_inside F bs0 dep dep' j [] i h k = absurd cc
  any_inside F bs0 dep dep' j (r ∷ rs) i h k = or_case (dep r) (any_in dep rs) _ k (λ z. or_left _ _ (ref_inside F bs0 dep dep' j r i.0 h.0 z)) (λ z. or_rights _ _ (any_inside F bs0 dep dep' j rs i.1 h.1 z))

  all_inside : (F : ℕ → Ref) (bs0 : List Ref) (dep dep' : Members) → Inside F bs0 dep dep' → (rs : List Ref) → AreNames rs → AllIn 0 bs0 rs → all_in dep rs ≡ true → all_in dep' (map (named_by F) rs) ≡ true
  all_inside F bs0 dep dep' j [] i h k = refl
  all_inside F bs0 dep dep' j (r ∷ rs) i h k = true_and _ _ (ref_inside F bs0 dep dep' j r i.0 h.0 (and_first (dep r) (all_in dep rs) k)) (all_inside F bs0 dep dep' j rs i.1 h.1 (and_second (dep r) (all_in dep rs) k))

  given_inside : (F : ℕ → Ref) (bs0 : List Ref) (dep dep' : Members) → Inside F bs0 dep dep' → (fs : ℕ → Bool) (n : ℕ) (rs : List Ref) → AreNames rs → AllIn 0 bs0 rs → all_given dep fs n rs ≡ true → all_given dep' fs n (map (named_by F) rs) ≡ true
  given_inside F bs0 dep dep' j fs n [] i h k = refl
  given_inside F bs0 dep dep' j fs n (r ∷ rs) i h k = true_and _ _ (go (fs n) (and_first (if fs n then dep r else true) (all_given dep fs (suc n) rs) k)) (given_inside F bs0 dep dep' j fs (suc n) rs i.1 h.1 (and_second (if fs n then dep r else true) (all_given dep fs (suc n) rs) k))
    where
      go : (y : Bool) → (if y then dep r else true) ≡ true → (if y then dep' (named_by F r) else true) ≡ true
      go true z = ref_inside F bs0 dep dep' j r i.0 h.0 z
      go false z = refl

  -- who is named, is by its name
  active_inside : (F : ℕ → Ref) (x : ℕ) (rs : List Ref) → AreNames rs → among (Named x 0) rs ≡ true → among (F x) (map (named_by F) rs) ≡ true
  active_inside F x [] i h = absurd cc
  active_inside F x (Live m ∷ rs) i h = absurd i.0
  active_inside F x (Named y c ∷ rs) i h = or_case (ref_eq (Named x 0) (Named y c)) (among (Named x 0) rs) _ h (λ z. or_left _ _ (ap (λ w. ref_eq (F x) (F w)) (sym (plain (same_ref (Named x 0) (Named y c) z))) ∙ self_ref (F x))) (λ z. or_rights _ _ (active_inside F x rs i.1 z))
    where
      plain : Named x 0 ≡ Named y c → x ≡ y
      plain z = cc

  -- a set that holds names in scope alone
  abbrev InScope0 : List Ref → Members → Type 0
  InScope0 bs0 dep = (x : ℕ) → dep (Named x 0) ≡ true → among (Named x 0) bs0 ≡ true

  pub old_name : (ss : List (ℕ × NameId)) (F : ℕ → Ref) (x : ℕ) (bs : List Ref) → AllNew 0 ss bs → among (Named x 0) bs ≡ true → bound_served d ss F x ≡ F x
  old_name [] F x bs n k = refl
  old_name (u ∷ us) F x bs n k = old_name us (bound u.0 (Named u.0 d) F) x (Named u.0 0 ∷ bs) n.1 (or_rights _ _ k) ∙ ap (λ b. if b then Named u.0 d else F x) (off (u.0 == x) refl)
    where
      off : (b : Bool) → (u.0 == x) ≡ b → (u.0 == x) ≡ false
      off false e = e
      off true e = absurd (clash (ap (λ z. among (Named z 0) bs) (eqb-true u.0 x e) ∙ k) n.0)

  -- what stands for names after services are bound
  served_name : (F : ℕ → Ref) (x : ℕ) (ss : List (ℕ × NameId)) (bs0 : List Ref) → AllNew 0 ss bs0 → among (Named x 0) (service_refs 0 ss) ≡ true → among (bound_served d ss F x) (service_refs d ss) ≡ true
  served_name F x [] bs0 n h = absurd cc
  served_name F x (t ∷ ss) bs0 n h = or_case (ref_eq (Named x 0) (Named t.0 0)) (among (Named x 0) (service_refs 0 ss)) _ h (λ z. or_left _ _ (first z)) (λ z. or_rights _ _ (served_name (bound t.0 (Named t.0 d) F) x ss (Named t.0 0 ∷ bs0) n.1 z))
    where
      plain : Named x 0 ≡ Named t.0 0 → x ≡ t.0
      plain z = cc

      first : ref_eq (Named x 0) (Named t.0 0) ≡ true → ref_eq (bound_served d ss (bound t.0 (Named t.0 d) F) x) (Named t.0 d) ≡ true
      first z =
          let e = plain (same_ref (Named x 0) (Named t.0 0) z) in
          let stays = old_name ss (bound t.0 (Named t.0 d) F) x (Named t.0 0 ∷ bs0) n.1 (or_left _ _ z) in
          ap (λ w. ref_eq w (Named t.0 d)) (stays ∙ ap (λ b. if b then Named t.0 d else F x) (ap (λ w. t.0 == w) e ∙ true_eq t.0)) ∙ self_ref (Named t.0 d)

  abbrev Everyone' : Members → Type 0
  Everyone' dep = (q : Ref) → dep q ≡ true

  abbrev Ready0 : List Ref → Members → Members → Type 0
  Ready0 bs0 dep dep' = InScope0 bs0 dep ⊎ Everyone' dep'

  active_known : (x : ℕ) (bs0 : List Ref) (rs : List Ref) → AllIn 0 bs0 rs → among (Named x 0) rs ≡ true → among (Named x 0) bs0 ≡ true
  active_known x bs0 rs h i = in_list 0 bs0 rs (Named x 0) h i

  entered_old : (ss : List (ℕ × NameId)) (bs : List Ref) (q : Ref) → among q bs ≡ true → among q (entered 0 ss bs) ≡ true
  entered_old [] bs q h = h
  entered_old (t ∷ ss) bs q h = entered_old ss (Named t.0 0 ∷ bs) q (or_rights _ _ h)

  entered_new : (ss : List (ℕ × NameId)) (bs : List Ref) (q : Ref) → among q (service_refs 0 ss) ≡ true → among q (entered 0 ss bs) ≡ true
  entered_new [] bs q h = absurd cc
  entered_new (t ∷ ss) bs q h = or_case (ref_eq q (Named t.0 0)) (among q (service_refs 0 ss)) _ h (λ z. entered_old ss (Named t.0 0 ∷ bs) q (or_left _ _ z)) (λ z. entered_new ss (Named t.0 0 ∷ bs) q z)

  module _ (c : NameId) (k : ℕ) (active : List (Ref × NameId)) (serve : List (ℕ × NameId)) (F : ℕ → Ref) (bs0 : List Ref) (dep dep' : Members) (names : AreNames (firsts active)) (known : AllIn 0 bs0 (firsts active)) (new : AllNew 0 serve bs0) (j : Inside F bs0 dep dep') (ready : Ready0 bs0 dep dep') where
    start_set : (x : ℕ) → (among (Named x 0) (firsts active) || among (Named x 0) (service_refs 0 serve)) ≡ true → (among (bound_served d serve F x) (firsts (put_part (named_by F) active)) || among (bound_served d serve F x) (service_refs d serve)) ≡ true
    start_set x h = or_case (among (Named x 0) (firsts active)) _ _ h
        (λ z. or_left _ _ (ap (λ w. among w (firsts (put_part (named_by F) active))) (old_name serve F x bs0 new (active_known x bs0 (firsts active) known z)) ∙ ap (among (F x)) (firsts_instance F active) ∙ active_inside F x (firsts active) names z))
        (λ z. or_rights _ _ (served_name F x serve bs0 new z))

    start_scope : (x : ℕ) → (among (Named x 0) (firsts active) || among (Named x 0) (service_refs 0 serve)) ≡ true → among (Named x 0) (entered 0 serve bs0) ≡ true
    start_scope x h = or_case (among (Named x 0) (firsts active)) _ _ h (λ z. entered_old serve bs0 (Named x 0) (active_known x bs0 (firsts active) known z)) (λ z. entered_new serve bs0 (Named x 0) z)

    inside_start : (b : Bool) → Inside (bound_served d serve F) (entered 0 serve bs0) (after_start b dep (firsts active) (service_refs 0 serve)) (after_start b dep' (firsts (put_part (named_by F) active)) (service_refs d serve))
    inside_start true x h z = start_set x z
    inside_start false x h z = or_case (dep (Named x 0)) _ _ z (λ w. or_left _ _ (old w ready)) (λ w. or_rights _ _ (true_and _ _ (ap (any_in dep') (firsts_instance F active) ∙ any_inside F bs0 dep dep' j (firsts active) names known (and_first (any_in dep (firsts active)) _ w)) (start_set x (and_second (any_in dep (firsts active)) _ w))))
      where
        old : dep (Named x 0) ≡ true → Ready0 bs0 dep dep' → dep' (bound_served d serve F x) ≡ true
        old w (inl i) = ap dep' (old_name serve F x bs0 new (i x w)) ∙ j x (i x w) w
        old w (inr e) = e (bound_served d serve F x)

    ready_start : (b : Bool) → Ready0 (entered 0 serve bs0) (after_start b dep (firsts active) (service_refs 0 serve)) (after_start b dep' (firsts (put_part (named_by F) active)) (service_refs d serve))
    ready_start true = inl (λ x z. start_scope x z)
    ready_start false = go ready
      where
        go : Ready0 bs0 dep dep' → Ready0 (entered 0 serve bs0) (after_start false dep (firsts active) (service_refs 0 serve)) (after_start false dep' (firsts (put_part (named_by F) active)) (service_refs d serve))
        go (inl i) = inl (λ x z. or_case (dep (Named x 0)) _ _ z (λ w. entered_old serve bs0 (Named x 0) (i x w)) (λ w. start_scope x (and_second (any_in dep (firsts active)) _ w)))
        go (inr e) = inr (λ q. or_left _ _ (e q))

  name_in : (bs0 : List Ref) (x : ℕ) (q : Ref) → IsName q → IsIn 0 bs0 q → ref_eq (Named x 0) q ≡ true → among (Named x 0) bs0 ≡ true
  name_in bs0 x q i h e = subst (IsIn 0 bs0) (sym (same_ref (Named x 0) q e)) h

  pub linear_instance : (F G : ℕ → Ref) (sc : Scope) → sc.pid ≡ 0 → (dep dep' : Members) → Inside F sc.processes dep dep' → Ready0 sc.processes dep dep' → (c : Choreography) → IsSource c → IsWellFormed ks procs sc c → IsLinear a sets dep c → IsLinear a sets dep' (instance_of d F G c)
  linear_instance F G sc z dep dep' j r (Then (Starts c e k active serve) rest) i w l =
      let zero' : e ≡ 0 = i.0.0 in
      let names = names_of_parts active i.0.1 in
      let known : AllIn 0 sc.processes (firsts active) = subst (λ y. AllIn y sc.processes (firsts active)) z w.0.known in
      let new : AllNew 0 serve sc.processes = subst (λ y. AllNew y serve sc.processes) zero' w.0.new_processes in
      let w1 : IsWellFormed ks procs (scope_after sc (Starts c 0 k active serve)) rest = subst (λ y. IsWellFormed ks procs (scope_after sc (Starts c y k active serve)) rest) zero' w.1 in
      let l1 : IsLinear a sets (members_after a dep (Starts c 0 k active serve)) rest = subst (λ y. IsLinear a sets (members_after a dep (Starts c y k active serve)) rest) zero' l.1 in
      (go (c.0 == a.0) names known l.0, linear_instance (bound_served d serve F) (bound k (Named k d) G) (scope_after sc (Starts c 0 k active serve)) z (members_after a dep (Starts c 0 k active serve)) (members_after a dep' (Starts c d k (put_part (named_by F) active) serve)) (inside_start c k active serve F sc.processes dep dep' names known new j r (c.0 == a.0)) (ready_start c k active serve F sc.processes dep dep' names known new j r (c.0 == a.0)) rest i.1 w1 l1)
    where
      go : (b : Bool) → AreNames (firsts active) → AllIn 0 sc.processes (firsts active) → (if b then all_in dep (firsts active) else true) ≡ true → (if b then all_in dep' (firsts (put_part (named_by F) active)) else true) ≡ true
      go true n k' h = ap (all_in dep') (firsts_instance F active) ∙ all_inside F sc.processes dep dep' j (firsts active) n k' h
      go false n k' h = refl
  linear_instance F G sc z dep dep' j r (Then (Communicates u q b t b' x) rest) i w l =
      let qk : IsIn 0 sc.processes q = subst (λ y. IsIn y sc.processes q) z w.0.sender in
      let tk : IsIn 0 sc.processes t = subst (λ y. IsIn y sc.processes t) z w.0.receiver in
      (refl, linear_instance F G sc z (members_after a dep (Communicates u q b t b' x)) (members_after a dep' (Communicates (named_by G u) (named_by F q) b (named_by F t) b' (put_content (named_by G) x))) (λ y h v. or_case (dep (Named y 0)) _ _ v (λ e. or_left _ _ (j y h e)) (λ e. or_rights _ _ (true_and _ _ (ref_inside F sc.processes dep dep' j q i.0.1 qk (and_first (dep q) (ref_eq (Named y 0) t) e)) (same_refs y t i.0.2 (and_second (dep q) (ref_eq (Named y 0) t) e))))) (more r tk) rest i.1 w.1 l.1)
    where
      same_refs : (y : ℕ) (t : Ref) → IsName t → ref_eq (Named y 0) t ≡ true → ref_eq (F y) (named_by F t) ≡ true
      same_refs y (Live m) i e = absurd i
      same_refs y (Named v c) i e = ap (λ w. ref_eq (F y) (F w)) (sym (plain (same_ref (Named y 0) (Named v c) e))) ∙ self_ref (F y)
        where
          plain : Named y 0 ≡ Named v c → y ≡ v
          plain z = cc

      more : Ready0 sc.processes dep dep' → IsIn 0 sc.processes t → Ready0 sc.processes (members_after a dep (Communicates u q b t b' x)) (members_after a dep' (Communicates (named_by G u) (named_by F q) b (named_by F t) b' (put_content (named_by G) x)))
      more (inl e) tk = inl (λ y v. or_case (dep (Named y 0)) _ _ v (λ s. e y s) (λ s. subst (IsIn 0 sc.processes) (sym (same_ref (Named y 0) t (and_second (dep q) (ref_eq (Named y 0) t) s))) tk))
      more (inr e) tk = inr (λ s. or_left _ _ (e s))
  linear_instance F G sc z dep dep' j r (Then (InTransit u b b' m q) rest) i w l = absurd i.0
  linear_instance F G sc z dep dep' j r (Then (Alone q o) rest) i w l = (refl, linear_instance F G sc z dep dep' j r rest i.1 w.1 l.1)
  linear_instance F G sc z dep dep' j r (Either q e x y) i w l = (linear_instance F G sc z dep dep' j r x i.1 w.1 l.0, linear_instance F G sc z dep dep' j r y i.2 w.2 l.1)
  linear_instance F G sc z dep dep' j r (Calls h e qs us) i w l = given_inside F sc.processes dep dep' j (sets h) 0 qs i.0 (subst (λ y. AllIn y sc.processes qs) z w.processes) l
  linear_instance F G sc z dep dep' j r Ends i w l = tt

-- a parameter in the set is passed a process in the set
pub given_args : (dd : ℕ) → (fs : ℕ → Bool) (i : ℕ) (xs : List NameId) (rs : List Ref) (x : ℕ) → length rs ≡ length xs → AreDistinctRefs (names_in_scope xs) → given fs i (names_in_scope xs) (Named x 0) ≡ true → given fs i rs (bound_all dd xs rs x) ≡ true
given_args dd fs i [] rs x l t h = absurd cc
given_args dd fs i (y ∷ xs) [] x l t h = absurd cc
given_args dd fs i (y ∷ xs) (r ∷ rs) x l t h = go (y.0 == x) refl (given_args dd fs (suc i) xs rs x (less l) t.1)
  where
    less : suc (length rs) ≡ suc (length xs) → length rs ≡ length xs
    less i = cc

    in_names : (j : ℕ) (zs : List NameId) → given fs j (names_in_scope zs) (Named x 0) ≡ true → among (Named x 0) (names_in_scope zs) ≡ true
    in_names j [] k = absurd cc
    in_names j (z ∷ zs) k = or_case (fs j && ref_eq (Named x 0) (Named z.0 0)) (given fs (suc j) (names_in_scope zs) (Named x 0)) _ k (λ w. or_left _ _ (and_second (fs j) _ w)) (λ w. or_rights _ _ (in_names (suc j) zs w))

    plain : Named x 0 ≡ Named y.0 0 → x ≡ y.0
    plain z = cc

    go : (b : Bool) → (y.0 == x) ≡ b → (given fs (suc i) (names_in_scope xs) (Named x 0) ≡ true → given fs (suc i) rs (bound_all dd xs rs x) ≡ true) → given fs i (r ∷ rs) (if b then r else bound_all dd xs rs x) ≡ true
    go true e ih = or_case (fs i && ref_eq (Named x 0) (Named y.0 0)) (given fs (suc i) (names_in_scope xs) (Named x 0)) _ h (λ w. or_left _ _ (true_and _ _ (and_first (fs i) _ w) (self_ref r))) (λ w. absurd (clash (ap (λ z. among (Named z 0) (names_in_scope xs)) (eqb-true y.0 x e) ∙ in_names (suc i) xs w) t.0))
    go false e ih = or_rights _ _ (ih (or_case (fs i && ref_eq (Named x 0) (Named y.0 0)) (given fs (suc i) (names_in_scope xs) (Named x 0)) _ h (λ w. absurd (eqb-false y.0 x e (sym (plain (same_ref (Named x 0) (Named y.0 0) (and_second (fs i) _ w)))))) (λ w. w)))

pub given_names : (fs : ℕ → Bool) (i : ℕ) (xs : List NameId) (x : ℕ) → given fs i (names_in_scope xs) (Named x 0) ≡ true → among (Named x 0) (names_in_scope xs) ≡ true
given_names fs i [] x h = absurd cc
given_names fs i (z ∷ zs) x h = or_case (fs i && ref_eq (Named x 0) (Named z.0 0)) (given fs (suc i) (names_in_scope zs) (Named x 0)) _ h (λ w. or_left _ _ (and_second (fs i) _ w)) (λ w. or_rights _ _ (given_names fs (suc i) zs x w))
