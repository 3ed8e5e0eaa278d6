-- Whoever uses a role in a source is its holder; so it is in an instance.
use Rattle.std.proofs.Common.{◌≡◌, ◌⊎◌, inl, inr, ℕ, zero, suc, ◌<◌, Bool, true, false, List, [], ◌∷◌, ◌++◌, length, Option, Some, None, refl, sym, ap, ◌∙◌, subst, if◌then◌else◌, ◌==◌, ◌||◌, ◌&&◌, arith}
use Rattle.std.specs.Prelude.{map, slice_get}
use Rattle.std.proofs.lemmas.Bool.{eqb-true, eqb-false}
use Rattle.chor_base.specs.declared.names.NameId.{NameId}
use Rattle.chor_semantics.specs.Choreography.{Ref, Live, Named, ref_eq, among, Content, OfValue, OfLabel, OfPart, Starts, Communicates, InTransit, Alone, Choreography, Then, Either, Calls, Ends, put_content, put_part, bound, bound_served, named_by, instance_of}
use Rattle.chor_semantics.specs.Sources.{Procedure}
use Rattle.chor_semantics.specs.Steps.{procedure_named, bound_all}
use Rattle.endpoint_code.specs.declared.endpoints.Channel.{Channel}
use Rattle.well_formed.specs.WellFormed.{IsIn, AllIn, AllNew, AreDistinctRefs, names_in_scope, entered, firsts, scope_after, StartFits, ContentFits, IsWellFormed}
use Rattle.well_formed.specs.Holders.{named_param, listed_param, declared_holder, is_role, hands_over, first_with, as_parts, holder_after, ListedHolders, HeldBy, PassedHeld, HoldersFit}
use Rattle.well_formed.specs.SourceTrees.{IsName, AreNames, AreParts, IsContent, IsSource}
use Rattle.well_formed.proofs.References.{left_or, right_or, or_left, or_rights, clash, self_ref, same_ref, differ_ref, true_eq}
use Rattle.correspondence.proofs.Roles.{put_holder}
use Rattle.well_formed.proofs.Instances.{same_named}
use Rattle.well_formed.proofs.InstancesLinear.{old_name}

-- a source's session name and what stands for it: y is, among names, what u is among what stands for them
abbrev pub SameName : (ℕ → Ref) → List Ref → Ref → ℕ → Type 0
SameName G bs0 u y = (z : ℕ) → among (Named z 0) bs0 ≡ true → ref_eq u (G z) ≡ (y == z)

abbrev pub SameFresh : ℕ → List Ref → Ref → ℕ → Type 0
SameFresh d bs0 u y = (z : ℕ) → among (Named z 0) bs0 ≡ false → ref_eq u (Named z d) ≡ (y == z)

-- the holder there, by its name; or nobody is, and nothing is asked
abbrev pub HolderIs : (ℕ → Ref) → Option Ref → Option Ref → Type 0
HolderIs F o0 o = (o ≡ put_holder (named_by F) o0) ⊎ (o0 ≡ None)

-- a holder in scope, by its name
abbrev pub NameInHolder : List Ref → Option Ref → Type 0
NameInHolder bs0 None = Unit {0}
NameInHolder bs0 (Some (Live m)) = ⊥
NameInHolder bs0 (Some (Named x e)) = (e ≡ 0) × (among (Named x 0) bs0 ≡ true)

module _ (d : ℕ) (lists : ListedHolders) (ks : List Channel) (procs : List Procedure) (r : NameId) (u : Ref) (y : ℕ) where
  same_role : (G : ℕ → Ref) (bs0 : List Ref) → SameName G bs0 u y → (s : Ref) → IsName s → IsIn 0 bs0 s → (c : NameId) → is_role u r (named_by G s) c ≡ is_role (Named y 0) r s c
  same_role G bs0 j (Live m) i h c = absurd i
  same_role G bs0 j (Named z e) i h c = ap (λ b. b && (r.0 == c.0)) (j z (ap (λ v. among (Named z v) bs0) (sym i) ∙ h) ∙ sym (same_named y z) ∙ ap (λ v. ref_eq (Named y 0) (Named z v)) (sym i))

  same_hands : (G : ℕ → Ref) (bs0 : List Ref) → SameName G bs0 u y → (ps : List Ref) (w : Content) → IsContent w → ContentFits (record { pid = 0; processes = ps; sid = 0; sessions = bs0 }) w → hands_over u r (put_content (named_by G) w) ≡ hands_over (Named y 0) r w
  same_hands G bs0 j ps (OfValue e x) i h = refl
  same_hands G bs0 j ps (OfLabel l) i h = refl
  same_hands G bs0 j ps (OfPart s c) i h = same_role G bs0 j s i h c

  holds : (F : ℕ → Ref) (o0 o : Option Ref) (p : Ref) → HolderIs F o0 o → o0 ≡ Some p → o ≡ Some (named_by F p)
  holds F o0 o p (inl e) i = e ∙ ap (put_holder (named_by F)) i
  holds F o0 o p (inr e) i = absurd (not_both e i)
    where
      not_both : o0 ≡ None → o0 ≡ Some p → ⊥
      not_both a b = cc

  more_names : (G : ℕ → Ref) (bs0 : List Ref) (k : ℕ) → among (Named k 0) bs0 ≡ false → SameName G bs0 u y → SameFresh d bs0 u y → SameName (bound k (Named k d) G) (Named k 0 ∷ bs0) u y
  more_names G bs0 k fresh j f z h = go (k == z) refl
    where
      plain : Named z 0 ≡ Named k 0 → z ≡ k
      plain v = cc

      rest : (k == z) ≡ false → among (Named z 0) bs0 ≡ true
      rest e = other (ref_eq (Named z 0) (Named k 0)) (differ_ref (Named z 0) (Named k 0) (λ v. eqb-false k z e (sym (plain v)))) h
        where
          other : (b : Bool) → b ≡ false → (b || among (Named z 0) bs0) ≡ true → among (Named z 0) bs0 ≡ true
          other false i j = j
          other true i j = absurd cc

      go : (b : Bool) → (k == z) ≡ b → ref_eq u (if b then Named k d else G z) ≡ (y == z)
      go true e = f k fresh ∙ ap (λ v. y == v) (eqb-true k z e)
      go false e = j z (rest e)

  more_fresh : (bs0 : List Ref) (k : ℕ) → SameFresh d bs0 u y → SameFresh d (Named k 0 ∷ bs0) u y
  more_fresh bs0 k f z h = f z (right_or _ _ h)

  first_instance : (F : ℕ → Ref) (active : List (Ref × NameId)) → first_with r (put_part (named_by F) active) ≡ put_holder (named_by F) (first_with r active)
  first_instance F [] = refl
  first_instance F (q ∷ qs) = ap (λ v. if q.1.0 == r.0 then Some (named_by F q.0) else v) (first_instance F qs) ∙ go (q.1.0 == r.0)
    where
      go : (b : Bool) → (if b then Some (named_by F q.0) else put_holder (named_by F) (first_with r qs)) ≡ put_holder (named_by F) (if b then Some q.0 else first_with r qs)
      go true = refl
      go false = refl

  held_instance : (F : ℕ → Ref) (x : Option ℕ) (ps : List Ref) (o0 o : Option Ref) → ((j : ℕ) → x ≡ Some j → j < length ps) → HolderIs F o0 o → HeldBy x ps o0 → HeldBy x (map (named_by F) ps) o
  held_instance F None ps o0 o l h k = tt
  held_instance F (Some j) ps o0 o l (inl e) k = e ∙ ap (put_holder (named_by F)) k ∙ sym (at ps j)
    where
      at : (ps : List Ref) (j : ℕ) → slice_get (map (named_by F) ps) j ≡ put_holder (named_by F) (slice_get ps j)
      at [] j = refl
      at (p ∷ ps) zero = refl
      at (p ∷ ps) (suc j) = at ps j
  held_instance F (Some j) ps o0 o l (inr e) k = absurd (there ps j (l j refl) (sym k ∙ e))
    where
      there : (ps : List Ref) (j : ℕ) → j < length ps → slice_get ps j ≡ None → ⊥
      there [] j h i = omega (arith, h)
      there (p ∷ ps) zero h i = cc
      there (p ∷ ps) (suc j) h i = there ps j (omega (arith, h)) i

  passed_instance : (F G : ℕ → Ref) (bs0 : List Ref) → SameName G bs0 u y → (ls : ℕ → NameId → Option ℕ) (ps : List Ref) → ((i j : ℕ) → ls i r ≡ Some j → j < length ps) → (o0 o : Option Ref) → HolderIs F o0 o → (i : ℕ) (ss : List Ref) → AreNames ss → AllIn 0 bs0 ss → PassedHeld ls (Named y 0) r o0 ps i ss → PassedHeld ls u r o (map (named_by F) ps) i (map (named_by G) ss)
  passed_instance F G bs0 j ls ps l o0 o h i [] n w k = tt
  passed_instance F G bs0 j ls ps l o0 o h i (Live m ∷ ss) n w k = absurd n.0
  passed_instance F G bs0 j ls ps l o0 o h i (Named z e ∷ ss) n w k =
      ((λ x. held_instance F (ls i r) ps o0 o (l i) h (k.0 (ap (λ v. ref_eq (Named y 0) (Named z v)) n.0 ∙ same_named y z ∙ sym (j z (ap (λ v. among (Named z v) bs0) (sym n.0) ∙ w.0)) ∙ x))), passed_instance F G bs0 j ls ps l o0 o h (suc i) ss n.1 w.1 k.1)

  name_of : (bs0 : List Ref) (q : Ref) → IsName q → IsIn 0 bs0 q → NameInHolder bs0 (Some q)
  name_of bs0 (Live m) i h = i
  name_of bs0 (Named x e) i h = (i, ap (λ v. among (Named x v) bs0) (sym i) ∙ h)

  still_in : (ss : List (ℕ × NameId)) (bs0 : List Ref) (x : ℕ) → among (Named x 0) bs0 ≡ true → among (Named x 0) (entered 0 ss bs0) ≡ true
  still_in [] bs0 x h = h
  still_in (t ∷ ss) bs0 x h = still_in ss (Named t.0 0 ∷ bs0) x (or_rights _ _ h)

  still_name : (ss : List (ℕ × NameId)) (bs0 : List Ref) (o : Option Ref) → NameInHolder bs0 o → NameInHolder (entered 0 ss bs0) o
  still_name ss bs0 None h = tt
  still_name ss bs0 (Some (Live m)) h = h
  still_name ss bs0 (Some (Named x e)) h = (h.0, still_in ss bs0 x h.1)

  same_after : (F : ℕ → Ref) (ss : List (ℕ × NameId)) (bs0 : List Ref) → AllNew 0 ss bs0 → (o : Option Ref) → NameInHolder bs0 o → put_holder (named_by (bound_served d ss F)) o ≡ put_holder (named_by F) o
  same_after F ss bs0 n None h = refl
  same_after F ss bs0 n (Some (Live m)) h = absurd h
  same_after F ss bs0 n (Some (Named x e)) h = ap Some (old_name ks procs d (record { 0 = 0 }) (λ a b. false) ss F x bs0 n h.1)

  holder_more : (F : ℕ → Ref) (ss : List (ℕ × NameId)) (bs0 : List Ref) → AllNew 0 ss bs0 → (o0 o : Option Ref) → NameInHolder bs0 o0 → HolderIs F o0 o → HolderIs (bound_served d ss F) o0 o
  holder_more F ss bs0 n o0 o h (inl e) = inl (e ∙ sym (same_after F ss bs0 n o0 h))
  holder_more F ss bs0 n o0 o h (inr e) = inr e

  active_same : (F : ℕ → Ref) (ss : List (ℕ × NameId)) (bs0 : List Ref) → AllNew 0 ss bs0 → (active : List (Ref × NameId)) → AreParts active → AllIn 0 bs0 (firsts active) → put_part (named_by (bound_served d ss F)) active ≡ put_part (named_by F) active
  active_same F ss bs0 n [] i h = refl
  active_same F ss bs0 n ((Live m, a) ∷ qs) i h = absurd i.0
  active_same F ss bs0 n ((Named x e, a) ∷ qs) i h = ap (λ v. (v, a) ∷ put_part (named_by (bound_served d ss F)) qs) (old_name ks procs d (record { 0 = 0 }) (λ a b. false) ss F x bs0 n (ap (λ v. among (Named x v) bs0) (sym i.0) ∙ h.0)) ∙ ap (λ v. (F x, a) ∷ v) (active_same F ss bs0 n qs i.1 h.1)

  services_same : (ss : List (ℕ × NameId)) (F H : ℕ → Ref) (bs0 : List Ref) → AllNew 0 ss bs0 → ((x : ℕ) → among (Named x 0) (entered 0 ss bs0) ≡ true → H x ≡ bound_served d ss F x) → put_part (named_by H) (as_parts 0 ss) ≡ as_parts d ss
  services_same [] F H bs0 n j = refl
  services_same (t ∷ ss) F H bs0 n j =
      ap (λ v. (v, t.1) ∷ put_part (named_by H) (as_parts 0 ss)) (j t.0 (still_in ss (Named t.0 0 ∷ bs0) t.0 (or_left _ _ (self_ref (Named t.0 0)))) ∙ old_name ks procs d (record { 0 = 0 }) (λ a b. false) ss (bound t.0 (Named t.0 d) F) t.0 (Named t.0 0 ∷ bs0) n.1 (or_left _ _ (self_ref (Named t.0 0))) ∙ ap (λ b. if b then Named t.0 d else F t.0) (true_eq t.0))
      ∙ ap (λ v. (Named t.0 d, t.1) ∷ v) (services_same ss (bound t.0 (Named t.0 d) F) H (Named t.0 0 ∷ bs0) n.1 j)

  both_parts : (f : Ref → Ref) (xs ys : List (Ref × NameId)) → put_part f (xs ++ ys) ≡ put_part f xs ++ put_part f ys
  both_parts f [] ys = refl
  both_parts f (x ∷ xs) ys = ap (λ v. (f x.0, x.1) ∷ v) (both_parts f xs ys)

  first_name : (bs0 : List Ref) (parts : List (Ref × NameId)) → AreParts parts → AllIn 0 bs0 (firsts parts) → NameInHolder bs0 (first_with r parts)
  first_name bs0 [] i h = tt
  first_name bs0 (q ∷ qs) i h = go (q.1.0 == r.0) (first_name bs0 qs i.1 h.1)
    where
      go : (b : Bool) → NameInHolder bs0 (first_with r qs) → NameInHolder bs0 (if b then Some q.0 else first_with r qs)
      go true j = name_of bs0 q.0 i.0 h.0
      go false j = j

  parts_in : (active : List (Ref × NameId)) (ss : List (ℕ × NameId)) (bs0 : List Ref) → AreParts active → AllIn 0 bs0 (firsts active) → AreParts (active ++ as_parts 0 ss) × AllIn 0 (entered 0 ss bs0) (firsts (active ++ as_parts 0 ss))
  parts_in [] ss bs0 i h = services ss bs0
    where
      services : (ss : List (ℕ × NameId)) (bs0 : List Ref) → AreParts (as_parts 0 ss) × AllIn 0 (entered 0 ss bs0) (firsts (as_parts 0 ss))
      services [] bs0 = (tt, tt)
      services (t ∷ ss) bs0 = let z = services ss (Named t.0 0 ∷ bs0) in ((refl, z.0), (still_in ss (Named t.0 0 ∷ bs0) t.0 (or_left _ _ (self_ref (Named t.0 0))), z.1))
  parts_in ((Live m, a) ∷ qs) ss bs0 i h = absurd i.0
  parts_in ((Named x e, a) ∷ qs) ss bs0 i h =
      let z = parts_in qs ss bs0 i.1 h.1 in
      ((i.0, z.0), (ap (λ v. among (Named x v) (entered 0 ss bs0)) i.0 ∙ still_in ss bs0 x (ap (λ v. among (Named x v) bs0) (sym i.0) ∙ h.0), z.1))

  module _ (fits : (f : NameId) (p : Procedure) → procedure_named procs f ≡ Some p → (i : ℕ) (j : ℕ) → lists f i r ≡ Some j → j < length p.params) where
    pub owned_instance : (F G : ℕ → Ref) (ps ss : List Ref) → SameName G ss u y → SameFresh d ss u y → (c : Choreography) → IsSource c → IsWellFormed ks procs (record { pid = 0; processes = ps; sid = 0; sessions = ss }) c → (o0 o : Option Ref) → NameInHolder ps o0 → HolderIs F o0 o → HoldersFit lists (Named y 0) r c o0 → HoldersFit lists u r (instance_of d F G c) o
    owned_instance F G ps ss j f (Then (Starts a e k active serve) rest) i w o0 o h z own =
        let zero' : e ≡ 0 = i.0.0 in
        let fit : StartFits ks (record { pid = 0; processes = ps; sid = 0; sessions = ss }) a 0 k active serve = subst (λ v. StartFits ks (record { pid = 0; processes = ps; sid = 0; sessions = ss }) a v k active serve) zero' w.0 in
        let w1 = subst (λ v. IsWellFormed ks procs (scope_after (record { pid = 0; processes = ps; sid = 0; sessions = ss }) (Starts a v k active serve)) rest) zero' w.1 in
        let own1 : HoldersFit lists (Named y 0) r rest (holder_after (Named y 0) r (Starts a 0 k active serve) o0) = subst (λ v. HoldersFit lists (Named y 0) r rest (holder_after (Named y 0) r (Starts a v k active serve) o0)) zero' own.1 in (
          tt,
          owned_instance (bound_served d serve F) (bound k (Named k d) G) (entered 0 serve ps) (Named k 0 ∷ ss) (more_names G ss k fit.new_session j f) (more_fresh ss k f) rest i.1 w1 (holder_after (Named y 0) r (Starts a 0 k active serve) o0) (holder_after u r (Starts a d k (put_part (named_by F) active) serve) o)
              (kept fit (ref_eq (Named y 0) (Named k 0))) (held fit (ref_eq (Named y 0) (Named k 0)) (ref_eq u (Named k d)) (f k fit.new_session ∙ sym (same_named y k))) own1,
        )
      where
        kept : StartFits ks (record { pid = 0; processes = ps; sid = 0; sessions = ss }) a 0 k active serve → (b : Bool) → NameInHolder (entered 0 serve ps) (if b then first_with r (active ++ as_parts 0 serve) else o0)
        kept fit true = let v = parts_in active serve ps i.0.1 fit.known in first_name (entered 0 serve ps) (active ++ as_parts 0 serve) v.0 v.1
        kept fit false = still_name serve ps o0 h

        held : StartFits ks (record { pid = 0; processes = ps; sid = 0; sessions = ss }) a 0 k active serve → (b b' : Bool) → b' ≡ b → HolderIs (bound_served d serve F) (if b then first_with r (active ++ as_parts 0 serve) else o0) (if b' then first_with r (put_part (named_by F) active ++ as_parts d serve) else o)
        held fit true true q = inl (ap (first_with r) (sym (both_parts (named_by (bound_served d serve F)) active (as_parts 0 serve) ∙ ap (λ v. v ++ put_part (named_by (bound_served d serve F)) (as_parts 0 serve)) (active_same F serve ps fit.new_processes active i.0.1 fit.known) ∙ ap (λ v. put_part (named_by F) active ++ v) (services_same serve F (bound_served d serve F) ps fit.new_processes (λ x t. refl)))) ∙ first_instance (bound_served d serve F) (active ++ as_parts 0 serve))
        held fit false false q = holder_more F serve ps fit.new_processes o0 o h z
        held fit true false q = absurd cc
        held fit false true q = absurd cc
    owned_instance F G ps ss j f (Then (Communicates s p a q b x) rest) i w o0 o h z own =
        let sr = λ (c : NameId). same_role G ss j s i.0.0 w.0.session c in
        let sh = same_hands G ss j ps x i.0.3 w.0.content in (
          (λ v. holds F o0 o p z (own.0.0 (sym (sr a) ∙ v)), λ v. holds F o0 o q z (own.0.1 (sym (sr b) ∙ v)), λ v. holds F o0 o p z (own.0.2 (sym sh ∙ v))),
          owned_instance F G ps ss j f rest i.1 w.1 (holder_after (Named y 0) r (Communicates s p a q b x) o0) (holder_after u r (Communicates (named_by G s) (named_by F p) a (named_by F q) b (put_content (named_by G) x)) o) (kept (hands_over (Named y 0) r x)) (held (hands_over (Named y 0) r x) (hands_over u r (put_content (named_by G) x)) sh) own.1,
        )
      where
        kept : (v : Bool) → NameInHolder ps (if v then Some q else o0)
        kept true = name_of ps q i.0.2 w.0.receiver
        kept false = h

        held : (v v' : Bool) → v' ≡ v → HolderIs F (if v then Some q else o0) (if v' then Some (named_by F q) else o)
        held true true t = inl refl
        held false false t = z
        held true false t = absurd cc
        held false true t = absurd cc
    owned_instance F G ps ss j f (Then (InTransit s a b m q) rest) i w o0 o h z own = absurd i.0
    owned_instance F G ps ss j f (Then (Alone p v) rest) i w o0 o h z own = (tt, owned_instance F G ps ss j f rest i.1 w.1 o0 o h z own.1)
    owned_instance F G ps ss j f (Either p e c c') i w o0 o h z own = (owned_instance F G ps ss j f c i.1 w.1 o0 o h z own.0, owned_instance F G ps ss j f c' i.2 w.2 o0 o h z own.1)
    owned_instance F G ps ss j f (Calls g e qs us) i w o0 o h z own = passed_instance F G ss j (lists g) qs (λ n t v. subst (λ l. t < l) (sym w.process_count) (fits g w.procedure w.declared n t v)) o0 o z 0 us i.1 w.sessions own
    owned_instance F G ps ss j f Ends i w o0 o h z own = tt

-- ---- a session that a body doesn't mention

module _ (d : ℕ) (lists : ListedHolders) (ks : List Channel) (procs : List Procedure) (r : NameId) (u : Ref) where
  abbrev NeverName : (ℕ → Ref) → List Ref → Type 0
  NeverName G bs0 = (z : ℕ) → among (Named z 0) bs0 ≡ true → ref_eq u (G z) ≡ false

  abbrev NeverFresh : List Ref → Type 0
  NeverFresh bs0 = (z : ℕ) → among (Named z 0) bs0 ≡ false → ref_eq u (Named z d) ≡ false

  off_role : (G : ℕ → Ref) (bs0 : List Ref) → NeverName G bs0 → (s : Ref) → IsName s → IsIn 0 bs0 s → (c : NameId) → is_role u r (named_by G s) c ≡ false
  off_role G bs0 j (Live m) i h c = absurd i
  off_role G bs0 j (Named z e) i h c = ap (λ b. b && (r.0 == c.0)) (j z (ap (λ v. among (Named z v) bs0) (sym i) ∙ h))

  off_hands : (G : ℕ → Ref) (bs0 ps : List Ref) → NeverName G bs0 → (w : Content) → IsContent w → ContentFits (record { pid = 0; processes = ps; sid = 0; sessions = bs0 }) w → hands_over u r (put_content (named_by G) w) ≡ false
  off_hands G bs0 ps j (OfValue e x) i h = refl
  off_hands G bs0 ps j (OfLabel l) i h = refl
  off_hands G bs0 ps j (OfPart s c) i h = off_role G bs0 j s i h c

  never_more : (G : ℕ → Ref) (bs0 : List Ref) (k : ℕ) → among (Named k 0) bs0 ≡ false → NeverName G bs0 → NeverFresh bs0 → NeverName (bound k (Named k d) G) (Named k 0 ∷ bs0)
  never_more G bs0 k fresh j f z h = go (k == z) refl
    where
      plain : Named z 0 ≡ Named k 0 → z ≡ k
      plain v = cc

      rest : (k == z) ≡ false → among (Named z 0) bs0 ≡ true
      rest e = other (ref_eq (Named z 0) (Named k 0)) (differ_ref (Named z 0) (Named k 0) (λ v. eqb-false k z e (sym (plain v)))) h
        where
          other : (b : Bool) → b ≡ false → (b || among (Named z 0) bs0) ≡ true → among (Named z 0) bs0 ≡ true
          other false i j = j
          other true i j = absurd cc

      go : (b : Bool) → (k == z) ≡ b → ref_eq u (if b then Named k d else G z) ≡ false
      go true e = f k fresh
      go false e = j z (rest e)

  not_passed : (G : ℕ → Ref) (bs0 : List Ref) → NeverName G bs0 → (ls : ℕ → NameId → Option ℕ) (o : Option Ref) (ps : List Ref) (i : ℕ) (ss : List Ref) → AreNames ss → AllIn 0 bs0 ss → PassedHeld ls u r o ps i (map (named_by G) ss)
  not_passed G bs0 j ls o ps i [] n w = tt
  not_passed G bs0 j ls o ps i (Live m ∷ ss) n w = absurd n.0
  not_passed G bs0 j ls o ps i (Named z e ∷ ss) n w = ((λ x. absurd (clash x (j z (ap (λ v. among (Named z v) bs0) (sym n.0) ∙ w.0)))), not_passed G bs0 j ls o ps (suc i) ss n.1 w.1)

  pub never_instance : (F G : ℕ → Ref) (ps ss : List Ref) → NeverName G ss → NeverFresh ss → (c : Choreography) → IsSource c → IsWellFormed ks procs (record { pid = 0; processes = ps; sid = 0; sessions = ss }) c → (o : Option Ref) → HoldersFit lists u r (instance_of d F G c) o
  never_instance F G ps ss j f (Then (Starts a e k active serve) rest) i w o =
      let fresh : among (Named k 0) ss ≡ false = subst (λ v. among (Named k v) ss ≡ false) i.0.0 w.0.new_session in
      let w1 = subst (λ v. IsWellFormed ks procs (scope_after (record { pid = 0; processes = ps; sid = 0; sessions = ss }) (Starts a v k active serve)) rest) i.0.0 w.1 in
      (tt, subst (HoldersFit lists u r (instance_of d (bound_served d serve F) (bound k (Named k d) G) rest)) (sym (ap (λ b. if b then first_with r (put_part (named_by F) active ++ as_parts d serve) else o) (f k fresh))) (never_instance (bound_served d serve F) (bound k (Named k d) G) (entered 0 serve ps) (Named k 0 ∷ ss) (never_more G ss k fresh j f) (λ z h. f z (right_or _ _ h)) rest i.1 w1 o))
  never_instance F G ps ss j f (Then (Communicates s p a q b x) rest) i w o =
      let sh = off_hands G ss ps j x i.0.3 w.0.content in (
        (λ v. absurd (clash v (off_role G ss j s i.0.0 w.0.session a)), λ v. absurd (clash v (off_role G ss j s i.0.0 w.0.session b)), λ v. absurd (clash v sh)),
        subst (HoldersFit lists u r (instance_of d F G rest)) (sym (ap (λ y. if y then Some (named_by F q) else o) sh)) (never_instance F G ps ss j f rest i.1 w.1 o),
      )
  never_instance F G ps ss j f (Then (InTransit s a b m q) rest) i w o = absurd i.0
  never_instance F G ps ss j f (Then (Alone p v) rest) i w o = (tt, never_instance F G ps ss j f rest i.1 w.1 o)
  never_instance F G ps ss j f (Either p e c c') i w o = (never_instance F G ps ss j f c i.1 w.1 o, never_instance F G ps ss j f c' i.2 w.2 o)
  never_instance F G ps ss j f (Calls g e qs us) i w o = not_passed G ss j (lists g) o (map (named_by F) qs) 0 us i.1 w.sessions
  never_instance F G ps ss j f Ends i w o = tt

-- ---- the body of a call

-- the argument of the parameter at a place
argument_at : (dd : ℕ) → (xs : List NameId) (rs : List Ref) (j : ℕ) (x : NameId) → length rs ≡ length xs → AreDistinctRefs (names_in_scope xs) → slice_get xs j ≡ Some x → slice_get rs j ≡ Some (bound_all dd xs rs x.0)
argument_at dd [] rs j x l t h = absurd cc
argument_at dd (z ∷ xs) [] j x l t h = absurd cc
argument_at dd (z ∷ xs) (q ∷ rs) zero x l t h = let e : z ≡ x = cc in ap (λ b. Some (if b then q else bound_all dd xs rs x.0)) (sym (ap (λ w. w.0 == x.0) e ∙ true_eq x.0))
argument_at dd (z ∷ xs) (q ∷ rs) (suc j) x l t h =
    argument_at dd xs rs j x (less l) t.1 h ∙ ap (λ b. Some (if b then q else bound_all dd xs rs x.0)) (sym (off (z.0 == x.0) refl))
  where
    less : suc (length rs) ≡ suc (length xs) → length rs ≡ length xs
    less i = cc

    listed : (ys : List NameId) (k : ℕ) → slice_get ys k ≡ Some x → among (Named x.0 0) (names_in_scope ys) ≡ true
    listed [] k i = absurd cc
    listed (y ∷ ys) zero i = let e : y ≡ x = cc in or_left _ _ (ap (λ w. ref_eq (Named x.0 0) (Named w.0 0)) e ∙ self_ref (Named x.0 0))
    listed (y ∷ ys) (suc k) i = or_rights _ _ (listed ys k i)

    off : (b : Bool) → (z.0 == x.0) ≡ b → (z.0 == x.0) ≡ false
    off false e = e
    off true e = absurd (clash (ap (λ w. among (Named w 0) (names_in_scope xs)) (eqb-true z.0 x.0 e) ∙ listed xs j h) t.0)

listed_holder : (dd : ℕ) → (xs : List NameId) (ps : List Ref) → length ps ≡ length xs → AreDistinctRefs (names_in_scope xs) → (x : Option ℕ) (o : Option Ref) → HeldBy x ps o → HolderIs (bound_all dd xs ps) (listed_param xs x) o
listed_holder dd xs ps l t None o h = inr refl
listed_holder dd xs ps l t (Some j) o h = go (slice_get xs j) refl
  where
    go : (z : Option NameId) → slice_get xs j ≡ z → (o ≡ put_holder (named_by (bound_all dd xs ps)) (named_param z)) ⊎ (named_param z ≡ None)
    go None e = inr refl
    go (Some x) e = inl (h ∙ argument_at dd xs ps j x l t e)

-- where a session is passed
pub record PassedAt (dd : ℕ) (ls : ℕ → NameId → Option ℕ) (xs : List NameId) (ps : List Ref) (r : NameId) (i : ℕ) (zs : List NameId) (ss : List Ref) (u : Ref) (o : Option Ref) : Type 0 where
  pub z : ℕ
  pub known : among (Named z 0) (names_in_scope zs) ≡ true
  pub is : bound_all dd zs ss z ≡ u
  pub holder : HolderIs (bound_all dd xs ps) (declared_holder ls xs i zs z r) o

pub passed_at : (dd : ℕ) → (ls : ℕ → NameId → Option ℕ) (xs : List NameId) (ps : List Ref) → length ps ≡ length xs → AreDistinctRefs (names_in_scope xs) → (r : NameId) (u : Ref) (o : Option Ref) (i : ℕ) (zs : List NameId) (ss : List Ref) → length ss ≡ length zs → AreDistinctRefs (names_in_scope zs) → among u ss ≡ true → PassedHeld ls u r o ps i ss → PassedAt dd ls xs ps r i zs ss u o
passed_at dd ls xs ps l t r u o i zs [] m n h k = absurd cc
passed_at dd ls xs ps l t r u o i [] (s ∷ ss) m n h k = absurd cc
passed_at dd ls xs ps l t r u o i (z ∷ zs) (s ∷ ss) m n h k = go (ref_eq u s) refl h (passed_at dd ls xs ps l t r u o (suc i) zs ss (less m) n.1)
  where
    less : suc (length ss) ≡ suc (length zs) → length ss ≡ length zs
    less i = cc

    go : (b : Bool) → ref_eq u s ≡ b → (b || among u ss) ≡ true → (among u ss ≡ true → PassedHeld ls u r o ps (suc i) ss → PassedAt dd ls xs ps r (suc i) zs ss u o) → PassedAt dd ls xs ps r i (z ∷ zs) (s ∷ ss) u o
    go true e v ih = record {
      z = z.0;
      known = or_left _ _ (self_ref (Named z.0 0));
      is = ap (λ b. if b then s else bound_all dd zs ss z.0) (true_eq z.0) ∙ sym (same_ref u s e);
      holder = subst (λ b. HolderIs (bound_all dd xs ps) (if b then listed_param xs (ls i r) else declared_holder ls xs (suc i) zs z.0 r) o) (sym (true_eq z.0)) (listed_holder dd xs ps l t (ls i r) o (k.0 e));
    }
    go false e v ih =
        let w = ih v k.1 in
        let off : (z.0 == w.z) ≡ false = differ w.z (z.0 == w.z) refl w.known in
        record {
          z = w.z;
          known = or_rights _ _ w.known;
          is = ap (λ b. if b then s else bound_all dd zs ss w.z) off ∙ w.is;
          holder = subst (λ b. HolderIs (bound_all dd xs ps) (if b then listed_param xs (ls i r) else declared_holder ls xs (suc i) zs w.z r) o) (sym off) w.holder;
        }
      where
        differ : (x : ℕ) (b : Bool) → (z.0 == x) ≡ b → among (Named x 0) (names_in_scope zs) ≡ true → (z.0 == x) ≡ false
        differ x false e j = e
        differ x true e j = absurd (clash (ap (λ w. among (Named w 0) (names_in_scope zs)) (eqb-true z.0 x e) ∙ j) n.0)

pub none_declared : (ls : ℕ → NameId → Option ℕ) (xs : List NameId) (r : NameId) (y : ℕ) (i : ℕ) (zs : List NameId) → among (Named y 0) (names_in_scope zs) ≡ false → declared_holder ls xs i zs y r ≡ None
none_declared ls xs r y i [] h = refl
none_declared ls xs r y i (z ∷ zs) h = ap (λ b. if b then listed_param xs (ls i r) else declared_holder ls xs (suc i) zs y r) (off (z.0 == y) refl) ∙ none_declared ls xs r y (suc i) zs (right_or _ _ h)
  where
    off : (b : Bool) → (z.0 == y) ≡ b → (z.0 == y) ≡ false
    off false e = e
    off true e = absurd (clash (ap (λ w. ref_eq (Named w 0) (Named z.0 0)) (sym (eqb-true z.0 y e)) ∙ self_ref (Named z.0 0)) (left_or _ _ h))
