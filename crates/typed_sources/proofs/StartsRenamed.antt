-- A typed choreography stays typed under other references, starts in it too.
use Rattle.std.proofs.Common.{◌≡◌, ℕ, List, [], ◌∷◌, ◌++◌, map, refl, sym, ap, ◌∙◌, subst, Some, None, Option, Bool, true, false, ◌==◌, ◌||◌, ◌⊎◌, inl, inr, if◌then◌else◌}
use Rattle.chor_base.specs.declared.names.NameId.{NameId}
use Rattle.chor_base.specs.declared.value.Sort.{Sort}
use Rattle.chor_base.specs.declared.value.Sort.TheVariants as sort
use Rattle.chor_tree.specs.declared.protocol.State.{State}
use Rattle.chor_semantics.specs.Choreography.{Ref, Named, ref_eq, among, Starts, Communicates, InTransit, Alone, Choreography, Then, Either, Calls, Ends, put, put_node, put_part}
use Rattle.well_formed.specs.Holders.{first_with, as_parts}
use Rattle.well_formed.specs.WellFormed.{service_refs}
use Rattle.well_formed.proofs.References.{self_ref, same_ref, differ_ref, turned_ref, or_rights}
use Rattle.typed_sources.specs.Context.{Context, bound_to, unset, after}
use Rattle.typed_sources.specs.Typing.{HasProtocol, AllKnown, AllNew, IsNotEmpty, IsTypedNode, AtCalls, IsTypedIn, HasEnded}
use Rattle.typed_sources.proofs.Small.{on_or_off}
use Rattle.typed_sources.specs.Renames.{Renames, Stays}
use Rattle.typed_sources.proofs.Renamed.{sort_more, renamed_communication, renamed_transit, renamed_own, renamed_end}

true_or_false : (b : Bool) → b ≡ true → b ≡ false → ⊥
true_or_false b i j = cc

pub still_some : (f : Ref → Ref) (active : List (Ref × NameId)) → IsNotEmpty active → IsNotEmpty (put_part f active)
still_some f [] h = h
still_some f (p ∷ ps) h = tt

module _ (kind : NameId → Option NameId) (states : NameId → List State) (f g : Ref → Ref) where
  -- new processes stay, and aren't in scope before
  new_stays : (d e : Context) → Stays f g d e → (c : ℕ) (serve : List (ℕ × NameId)) → AllNew d.known (service_refs c serve) → (q : Ref) → among q (service_refs c serve) ≡ true → (f q ≡ q) × (d.known q ≡ false) × (e.known q ≡ false)
  new_stays d e st c [] a q h = absurd cc
  new_stays d e st c (s ∷ ss) a q h = go (ref_eq q (Named s.0 c)) refl h (new_stays d e st c ss a.2 q)
    where
      go : (b : Bool) → ref_eq q (Named s.0 c) ≡ b → (b || among q (service_refs c ss)) ≡ true → (among q (service_refs c ss) ≡ true → (f q ≡ q) × (d.known q ≡ false) × (e.known q ≡ false)) → (f q ≡ q) × (d.known q ≡ false) × (e.known q ≡ false)
      go false i k ih = ih k
      go true i k ih =
          let same = same_ref q (Named s.0 c) i in
          let w = st.process s.0 c a.0 in
          subst (λ x. (f x ≡ x) × (d.known x ≡ false) × (e.known x ≡ false)) (sym same) (w.0, a.0, w.1)

  all_new : (d e : Context) → Stays f g d e → (c : ℕ) (serve : List (ℕ × NameId)) → AllNew d.known (service_refs c serve) → AllNew e.known (service_refs c serve)
  all_new d e st c [] a = tt
  all_new d e st c (s ∷ ss) a = ((st.process s.0 c a.0).1, a.1, all_new d e st c ss a.2)

  pub active_known : (d e : Context) → Renames states f g d e → (active : List (Ref × NameId)) → AllKnown d.known (map (λ p. p.0) active) → AllKnown e.known (map (λ p. p.0) (put_part f active))
  active_known d e n [] k = tt
  active_known d e n (p ∷ ps) k = (n.known p.0 k.0, active_known d e n ps k.1)

  first_served : (d e : Context) → Stays f g d e → (c : ℕ) (serve : List (ℕ × NameId)) → AllNew d.known (service_refs c serve) → (r : NameId) (q : Ref) → first_with r (as_parts c serve) ≡ Some q → first_with r (as_parts c serve) ≡ Some (f q)
  first_served d e st c [] a r q h = absurd cc
  first_served d e st c (s ∷ ss) a r q h = go (s.1.0 == r.0) h (first_served d e st c ss a.2 r q)
    where
      go : (b : Bool) → (if b then Some (Named s.0 c) else first_with r (as_parts c ss)) ≡ Some q → (first_with r (as_parts c ss) ≡ Some q → first_with r (as_parts c ss) ≡ Some (f q)) → (if b then Some (Named s.0 c) else first_with r (as_parts c ss)) ≡ Some (f q)
      go false k ih = ih k
      go true k ih = let same : Named s.0 c ≡ q = cc in let w : f (Named s.0 c) ≡ Named s.0 c = (st.process s.0 c a.0).0 in ap Some (sym w ∙ ap f same)

  first_part : (d e : Context) → Stays f g d e → (c : ℕ) (active : List (Ref × NameId)) (serve : List (ℕ × NameId)) → AllNew d.known (service_refs c serve) → (r : NameId) (q : Ref)
      → first_with r (active ++ as_parts c serve) ≡ Some q → first_with r (put_part f active ++ as_parts c serve) ≡ Some (f q)
  first_part d e st c [] serve a r q h = first_served d e st c serve a r q h
  first_part d e st c (p ∷ ps) serve a r q h = go (p.1.0 == r.0) h (first_part d e st c ps serve a r q)
    where
      go : (b : Bool) → (if b then Some p.0 else first_with r (ps ++ as_parts c serve)) ≡ Some q → (first_with r (ps ++ as_parts c serve) ≡ Some q → first_with r (put_part f ps ++ as_parts c serve) ≡ Some (f q))
          → (if b then Some (f p.0) else first_with r (put_part f ps ++ as_parts c serve)) ≡ Some (f q)
      go false k ih = ih k
      go true k ih = let same : p.0 ≡ q = cc in ap (λ x. Some (f x)) same

  pub record Begins (d e : Context) (ch : NameId) (c k : ℕ) (active : List (Ref × NameId)) (serve : List (ℕ × NameId)) : Type 0 where
    pub known : AllKnown e.known (map (λ p. p.0) (put_part f active))
    pub fits : IsTypedNode kind e (Starts ch c k (put_part f active) serve)
    pub names : Renames states f g (after kind d (Starts ch c k active serve)) (after kind e (Starts ch c k (put_part f active) serve))
    pub stays : Stays f g (after kind d (Starts ch c k active serve)) (after kind e (Starts ch c k (put_part f active) serve))

  renamed_start : (d e : Context) → Renames states f g d e → Stays f g d e → (ch : NameId) (c k : ℕ) (active : List (Ref × NameId)) (serve : List (ℕ × NameId))
      → AllKnown d.known (map (λ p. p.0) active) → IsTypedNode kind d (Starts ch c k active serve) → Begins d e ch c k active serve
  renamed_start d e n st ch c k active serve ak (kc, free, fresh, some) = record {
    known = active_known d e n active ak;
    fits = (kc, free', all_new d e st c serve fresh, still_some f active some);
    names = record {
      live = n.live;
      known = λ p h. known p (among p sv) refl h;
      apart = λ p q h i. apart p q (among p sv) (among q sv) refl refl h i;
      sorts = λ p h x s i. sorts p x s (among p sv) refl h i;
      protocol = λ s q h. protocol s q (ref_eq s binder) refl h;
      apart_sessions = λ s u h i. apart_sessions s u (ref_eq s binder) (ref_eq u binder) refl refl h i;
      done = λ s h r. done s r (ref_eq s binder) refl h;
      holder = λ s r q h. holder s r q (ref_eq s binder) refl h;
      none = λ j r h i. n.none j r h i;
      held = λ s r q h. held s r q (ref_eq s binder) refl h;
      others = λ t q h. others t q (ref_eq t binder) refl h;
    };
    stays = record {
      process = λ x y h. process x y h;
      session = λ x y h. session x y (ref_eq (Named x y) binder) refl h;
    };
  }
    where
      sv : List Ref
      sv = service_refs c serve

      binder : Ref
      binder = Named k c

      stay : g (Named k c) ≡ Named k c
      stay = (st.session k c free).0

      free' : e.protocol (Named k c) ≡ None
      free' = (st.session k c free).1

      off : (s : Ref) → HasProtocol (d.protocol s) → ref_eq s (Named k c) ≡ false
      off s ks = differ_ref s (Named k c) (λ i. on_or_off (d.protocol (Named k c)) free (subst (λ x. HasProtocol (d.protocol x)) i ks))

      off' : (t : Ref) → HasProtocol (e.protocol t) → ref_eq t (Named k c) ≡ false
      off' t kt = differ_ref t (Named k c) (λ i. on_or_off (e.protocol (Named k c)) free' (subst (λ x. HasProtocol (e.protocol x)) i kt))

      off_g : (s : Ref) → HasProtocol (d.protocol s) → ref_eq (g s) (Named k c) ≡ false
      off_g s ks = off' (g s) (ks.0, n.protocol s ks.0 ks.1)

      on_g : (s : Ref) → ref_eq s (Named k c) ≡ true → ref_eq (g s) (Named k c) ≡ true
      on_g s i = ap (λ x. ref_eq (g x) (Named k c)) (same_ref s (Named k c) i) ∙ ap (λ x. ref_eq x (Named k c)) stay ∙ self_ref (Named k c)

      new : (q : Ref) → among q (service_refs c serve) ≡ true → (f q ≡ q) × (d.known q ≡ false) × (e.known q ≡ false)
      new q h = new_stays d e st c serve fresh q h

      known : (p : Ref) (b : Bool) → among p (service_refs c serve) ≡ b → (b || d.known p) ≡ true → (among (f p) (service_refs c serve) || e.known (f p)) ≡ true
      known p true i h = ap (λ x. among x (service_refs c serve) || e.known (f p)) (new p i).0 ∙ ap (λ b. b || e.known (f p)) i
      known p false i h = or_rights _ _ (n.known p h)

      not_new : (p : Ref) → d.known p ≡ true → among (f p) (service_refs c serve) ≡ false
      not_new p h = go (among (f p) (service_refs c serve)) refl
        where
          go : (b : Bool) → among (f p) (service_refs c serve) ≡ b → among (f p) (service_refs c serve) ≡ false
          go false i = i
          go true i = absurd (true_or_false (e.known (f p)) (n.known p h) (new (f p) i).2)

      -- one that is new and one that was known
      differ : (p q : Ref) → among q (service_refs c serve) ≡ true → d.known p ≡ true → (ref_eq (f p) (f q) ≡ false) × (ref_eq p q ≡ false)
      differ p q i h =
          let w = new q i in (
            differ_ref (f p) (f q) (λ s. true_or_false (e.known q) (subst (λ x. e.known x ≡ true) (s ∙ w.0) (n.known p h)) w.2),
            differ_ref p q (λ s. true_or_false (d.known q) (subst (λ x. d.known x ≡ true) s h) w.1),
          )

      apart : (p q : Ref) (a b : Bool) → among p (service_refs c serve) ≡ a → among q (service_refs c serve) ≡ b → (a || d.known p) ≡ true → (b || d.known q) ≡ true → ref_eq (f p) (f q) ≡ ref_eq p q
      apart p q true true i j h l = ap (λ x. ref_eq x (f q)) (new p i).0 ∙ ap (λ x. ref_eq p x) (new q j).0
      apart p q true false i j h l = let w = differ q p i l in turned_ref (f q) (f p) w.0 ∙ sym (turned_ref q p w.1)
      apart p q false true i j h l = let w = differ p q j h in w.0 ∙ sym w.1
      apart p q false false i j h l = n.apart p q h l

      sorts : (p : Ref) (x : NameId) (s : Sort) (b : Bool) → among p (service_refs c serve) ≡ b → (b || d.known p) ≡ true → (if b then (λ y. None) else d.sorts p) x ≡ Some s → unset (service_refs c serve) e.sorts (f p) x ≡ Some s
      sorts p x s true i h l = absurd cc
      sorts p x s false i h l = ap (λ (b : Bool). (if b then (λ (y : NameId). None) else e.sorts (f p)) x) (not_new p h) ∙ n.sorts p h x s l

      protocol : (s : Ref) (q : NameId) (b : Bool) → ref_eq s (Named k c) ≡ b → (if b then kind ch else d.protocol s) ≡ Some q → (if ref_eq (g s) (Named k c) then kind ch else e.protocol (g s)) ≡ Some q
      protocol s q true i h = ap (λ (b : Bool). if b then kind ch else e.protocol (g s)) (on_g s i) ∙ h
      protocol s q false i h = ap (λ (b : Bool). if b then kind ch else e.protocol (g s)) (off_g s (q, h)) ∙ n.protocol s q h

      apart_sessions : (s u : Ref) (a b : Bool) → ref_eq s (Named k c) ≡ a → ref_eq u (Named k c) ≡ b → HasProtocol (if a then kind ch else d.protocol s) → HasProtocol (if b then kind ch else d.protocol u) → ref_eq (g s) (g u) ≡ ref_eq s u
      apart_sessions s u true true i j h l =
          ap (λ x. ref_eq (g x) (g u)) (same_ref s (Named k c) i) ∙ ap (λ x. ref_eq (g (Named k c)) (g x)) (same_ref u (Named k c) j) ∙ self_ref (g (Named k c))
          ∙ sym (ap (λ x. ref_eq x u) (same_ref s (Named k c) i) ∙ ap (λ x. ref_eq (Named k c) x) (same_ref u (Named k c) j) ∙ self_ref (Named k c))
      apart_sessions s u true false i j h l =
          ap (λ x. ref_eq (g x) (g u)) (same_ref s (Named k c) i) ∙ ap (λ x. ref_eq x (g u)) stay ∙ turned_ref (g u) (Named k c) (off_g u l)
          ∙ sym (ap (λ x. ref_eq x u) (same_ref s (Named k c) i) ∙ turned_ref u (Named k c) j)
      apart_sessions s u false true i j h l =
          ap (λ x. ref_eq (g s) (g x)) (same_ref u (Named k c) j) ∙ ap (λ x. ref_eq (g s) x) stay ∙ off_g s h
          ∙ sym (ap (λ x. ref_eq s x) (same_ref u (Named k c) j) ∙ i)
      apart_sessions s u false false i j h l = n.apart_sessions s u h l

      done : (s : Ref) (r : NameId) (b : Bool) → ref_eq s (Named k c) ≡ b → HasProtocol (if b then kind ch else d.protocol s) → (if ref_eq (g s) (Named k c) then [] else e.done (g s) r) ≡ (if b then [] else d.done s r)
      done s r true i h = ap (λ (b : Bool). if b then [] else e.done (g s) r) (on_g s i)
      done s r false i h = ap (λ (b : Bool). if b then [] else e.done (g s) r) (off_g s h) ∙ n.done s h r

      holder : (s : Ref) (r : NameId) (q : Ref) (b : Bool) → ref_eq s (Named k c) ≡ b → (if b then first_with r (active ++ as_parts c serve) else d.holder s r) ≡ Some q
          → (if ref_eq (g s) (Named k c) then first_with r (put_part f active ++ as_parts c serve) else e.holder (g s) r) ≡ Some (f q)
      holder s r q true i h = ap (λ (b : Bool). if b then first_with r (put_part f active ++ as_parts c serve) else e.holder (g s) r) (on_g s i) ∙ first_part d e st c active serve fresh r q h
      holder s r q false i h = ap (λ (b : Bool). if b then first_with r (put_part f active ++ as_parts c serve) else e.holder (g s) r) (off_g s (n.held s r q h)) ∙ n.holder s r q h

      held : (s : Ref) (r : NameId) (q : Ref) (b : Bool) → ref_eq s (Named k c) ≡ b → (if b then first_with r (active ++ as_parts c serve) else d.holder s r) ≡ Some q → HasProtocol (if b then kind ch else d.protocol s)
      held s r q true i h = kc
      held s r q false i h = n.held s r q h

      others : (t : Ref) (q : NameId) (b : Bool) → ref_eq t (Named k c) ≡ b → (if b then kind ch else e.protocol t) ≡ Some q
          → ((s : Ref) × (g s ≡ t) × (bound_to (Named k c) (kind ch) d.protocol s ≡ Some q)) ⊎ HasEnded (states q) (λ r. if b then [] else e.done t r)
      others t q true i h = inl (Named k c, stay ∙ sym (same_ref t (Named k c) i), ap (λ (b : Bool). if b then kind ch else d.protocol (Named k c)) (self_ref (Named k c)) ∙ h)
      others t q false i h = elim (n.others t q h) [
        | inl s ↦ inl (s.0, s.1, ap (λ (b : Bool). if b then kind ch else d.protocol s.0) (off s.0 (q, s.2)) ∙ s.2)
        | inr w ↦ inr w
      ]

      or_none : (a b : Bool) → (a || b) ≡ false → (a ≡ false) × (b ≡ false)
      or_none true b h = absurd cc
      or_none false b h = (refl, h)

      process : (x y : ℕ) → (among (Named x y) (service_refs c serve) || d.known (Named x y)) ≡ false → (f (Named x y) ≡ Named x y) × ((among (Named x y) (service_refs c serve) || e.known (Named x y)) ≡ false)
      process x y h =
          let w = or_none _ _ h in
          let i = st.process x y w.1 in
          (i.0, ap (λ b. b || e.known (Named x y)) w.0 ∙ i.1)

      session : (x y : ℕ) (b : Bool) → ref_eq (Named x y) (Named k c) ≡ b → (if b then kind ch else d.protocol (Named x y)) ≡ None → (g (Named x y) ≡ Named x y) × ((if b then kind ch else e.protocol (Named x y)) ≡ None)
      session x y true i h = absurd (on_or_off (kind ch) h kc)
      session x y false i h = st.session x y h

  module _ (called : AtCalls)
      (calls : (d e : Context) → Renames states f g d e → Stays f g d e → (h : NameId) (k : ℕ) (ps ss : List Ref) → called d h k ps ss → called e h k (map f ps) (map g ss)) where
    pub put_typed : (d e : Context) → Renames states f g d e → Stays f g d e → (c : Choreography) → IsTypedIn kind states called d c → IsTypedIn kind states called e (put f g c)
    put_typed d e n st (Then (Starts ch c k active serve) rest) (a, fits, t) =
        let w = renamed_start d e n st ch c k active serve a fits in (w.known, w.fits, put_typed (after kind d (Starts ch c k active serve)) (after kind e (Starts ch c k (put_part f active) serve)) w.names w.stays rest t)
    put_typed d e n st (Then (Communicates s p a q b w) rest) (k, fits, t) =
        let i = renamed_communication kind states f g d e n s p a q b w k fits in
        ((n.known p k.0, (n.known q k.1.0, tt)), i.0, put_typed (after kind d (Communicates s p a q b w)) (after kind e (put_node f g (Communicates s p a q b w))) i.1 (record { process = st.process; session = st.session }) rest t)
    put_typed d e n st (Then (InTransit s a b w q) rest) (k, fits, t) =
        let i = renamed_transit kind states f g d e n s a b w q k fits in
        ((n.known q k.0, tt), i.0, put_typed (after kind d (InTransit s a b w q)) (after kind e (put_node f g (InTransit s a b w q))) i.1 (record { process = st.process; session = st.session }) rest t)
    put_typed d e n st (Then (Alone p o) rest) (k, fits, t) =
        let i = renamed_own kind states f g d e n p o k fits in
        ((n.known p k.0, tt), i.0, put_typed (after kind d (Alone p o)) (after kind e (put_node f g (Alone p o))) i.1 (record { process = st.process; session = st.session }) rest t)
    put_typed d e n st (Either p x c c') (k, s, t, u) = (n.known p k, sort_more (d.sorts p) (e.sorts (f p)) (n.sorts p k) x sort.Bool s, put_typed d e n st c t, put_typed d e n st c' u)
    put_typed d e n st (Calls h k ps ss) t = calls d e n st h k ps ss t
    put_typed d e n st Ends t = renamed_end kind states f g d e n t
