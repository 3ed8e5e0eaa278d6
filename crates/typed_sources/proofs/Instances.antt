-- The tree of a source's body, typed, is typed with other references for its free names.
use Rattle.std.proofs.Common.{◌≡◌, ℕ, zero, suc, ◌<◌, List, [], ◌∷◌, ◌++◌, map, refl, sym, ap, ◌∙◌, subst, Some, None, Bool, true, false, ◌==◌, ◌&&◌, ◌||◌, inl, inr, ◌⊎◌, arith, if◌then◌else◌}
use Rattle.std.proofs.lemmas.Bool.{eqb-true, and_parts}
use Rattle.chor_base.specs.declared.names.NameId.{NameId}
use Rattle.chor_base.specs.declared.value.Sort.{Sort}
use Rattle.chor_tree.specs.declared.file.File.{File}
use Rattle.chor_semantics.specs.Choreography.{Ref, Live, Named, ref_eq, among, Starts, Communicates, InTransit, Alone, Choreography, Then, Either, Calls, Ends, put_part, named_by, bound, bound_served}
use Rattle.well_formed.specs.Holders.{first_with, as_parts}
use Rattle.well_formed.specs.WellFormed.{service_refs}
use Rattle.well_formed.proofs.References.{self_ref, same_ref, true_eq, left_or, right_or, differ_ref, turned_ref, or_rights}
use Rattle.typed_sources.specs.Context.{Context, bound_to, unset, after}
use Rattle.typed_sources.specs.Typing.{HasProtocol, AllKnown, AllNew, HasEnded}
use Rattle.typed_sources.proofs.Small.{on_or_off}
use Rattle.typed_sources.specs.Renames.{Renames}
use Rattle.typed_sources.specs.Stands.{kind_in, states_in}
use Rattle.typed_sources.proofs.Depths.{among_deep, less_not}

-- no message is in transit, and starts bind at depth 0, as in the trees of sources
abbrev pub IsFlat : Choreography → Type 0
IsFlat (Then (Starts ch c k active serve) rest) = (c ≡ 0) × IsFlat rest
IsFlat (Then (Communicates s p a q b w) rest) = IsFlat rest
IsFlat (Then (InTransit s a b w q) rest) = ⊥
IsFlat (Then (Alone p o) rest) = IsFlat rest
IsFlat (Either p x c d) = IsFlat c × IsFlat d
IsFlat (Calls h k ps ss) = Unit {0}
IsFlat Ends = Unit {0}

-- names of the source stand at depth 0 in the first environment, and what it doesn't know at depth k is free in the second
pub record Deep (k : ℕ) (d e : Context) : Type 0 where
  pub process : (x : ℕ) → d.known (Named x 0) ≡ false → e.known (Named x k) ≡ false
  pub session : (x : ℕ) → d.protocol (Named x 0) ≡ None → e.protocol (Named x k) ≡ None
  pub flat : (x c : ℕ) → 0 < c → (d.known (Named x c) ≡ false) × (d.protocol (Named x c) ≡ None)
  pub deeper : (x c : ℕ) → k < c → (e.known (Named x c) ≡ false) × (e.protocol (Named x c) ≡ None)

not_both : (b : Bool) → b ≡ true → b ≡ false → ⊥
not_both b i j = cc

some_same : {A : Type 0} (a b : A) → Some a ≡ Some b → a ≡ b
some_same a b h = cc

-- ---- service names

served_on : (k : ℕ) (serve : List (ℕ × NameId)) (F : ℕ → Ref) (x : ℕ) → F x ≡ Named x k → bound_served k serve F x ≡ Named x k
served_on k [] F x h = h
served_on k (s ∷ ss) F x h = served_on k ss (bound s.0 (Named s.0 k) F) x (go (s.0 == x) refl)
  where
    go : (b : Bool) → (s.0 == x) ≡ b → (if b then Named s.0 k else F x) ≡ Named x k
    go false i = h
    go true i = ap (λ y. Named y k) (eqb-true s.0 x i)

served_in : (k : ℕ) (serve : List (ℕ × NameId)) (F : ℕ → Ref) (x : ℕ) → among (Named x 0) (service_refs 0 serve) ≡ true → bound_served k serve F x ≡ Named x k
served_in k [] F x h = absurd cc
served_in k (s ∷ ss) F x h = go (ref_eq (Named x 0) (Named s.0 0)) refl h (served_in k ss (bound s.0 (Named s.0 k) F) x)
  where
    go : (b : Bool) → ref_eq (Named x 0) (Named s.0 0) ≡ b → (b || among (Named x 0) (service_refs 0 ss)) ≡ true → (among (Named x 0) (service_refs 0 ss) ≡ true → bound_served k ss (bound s.0 (Named s.0 k) F) x ≡ Named x k) → bound_served k ss (bound s.0 (Named s.0 k) F) x ≡ Named x k
    go false i j ih = ih j
    go true i j ih =
        let e : x ≡ s.0 = eqb-true x s.0 (and_parts _ _ i).0 in
        served_on k ss (bound s.0 (Named s.0 k) F) x (ap (λ b. if b then Named s.0 k else F x) (ap (λ y. s.0 == y) e ∙ true_eq s.0) ∙ ap (λ y. Named y k) (sym e))

served_out : (k : ℕ) (serve : List (ℕ × NameId)) (F : ℕ → Ref) (x : ℕ) → among (Named x 0) (service_refs 0 serve) ≡ false → bound_served k serve F x ≡ F x
served_out k [] F x h = refl
served_out k (s ∷ ss) F x h = served_out k ss (bound s.0 (Named s.0 k) F) x (right_or _ _ h) ∙ go (s.0 == x) refl
  where
    go : (b : Bool) → (s.0 == x) ≡ b → (if b then Named s.0 k else F x) ≡ F x
    go false i = refl
    go true i =
        let e : s.0 ≡ x = eqb-true s.0 x i in
        let t : ref_eq (Named x 0) (Named s.0 0) ≡ true = ap (λ y. ref_eq (Named x 0) (Named y 0)) e ∙ self_ref (Named x 0) in
        absurd (not_both (ref_eq (Named x 0) (Named s.0 0)) t (left_or _ _ h))

among_depth : (k : ℕ) (serve : List (ℕ × NameId)) (x : ℕ) → among (Named x k) (service_refs k serve) ≡ among (Named x 0) (service_refs 0 serve)
among_depth k [] x = refl
among_depth k (s ∷ ss) x = ap (λ b. ((x == s.0) && b) || among (Named x k) (service_refs k ss)) (true_eq k) ∙ ap (λ b. ((x == s.0) && true) || b) (among_depth k ss x)

among_live : (k : ℕ) (serve : List (ℕ × NameId)) (n : ℕ) → among (Live n) (service_refs k serve) ≡ false
among_live k [] n = refl
among_live k (s ∷ ss) n = among_live k ss n

module _ (f : File) where
  abbrev Same : (Ref → Ref) → (Ref → Ref) → Context → Context → Type 0
  Same = Renames (states_in f)

  -- ---- a start

  module _ (k : ℕ) (F G : ℕ → Ref) (d e : Context) (n : Renames (states_in f) (named_by F) (named_by G) d e) (deep : Deep k d e)
      (ch : NameId) (s : ℕ) (active : List (Ref × NameId)) (serve : List (ℕ × NameId))
      (kc : HasProtocol (kind_in f ch)) (free : d.protocol (Named s 0) ≡ None) (fresh : AllNew d.known (service_refs 0 serve)) where
    abbrev F' : ℕ → Ref
    F' = bound_served k serve F

    abbrev G' : ℕ → Ref
    G' = bound s (Named s k) G

    abbrev old : Context
    old = after (kind_in f) d (Starts ch 0 s active serve)

    abbrev new : Context
    new = after (kind_in f) e (Starts ch k s (put_part (named_by F) active) serve)

    free' : e.protocol (Named s k) ≡ None
    free' = deep.session s free

    -- service_refs aren't known before
    unknown : (rs : List Ref) → AllNew d.known rs → (q : Ref) → among q rs ≡ true → d.known q ≡ false
    unknown [] a q h = absurd cc
    unknown (r ∷ rs) a q h = go (ref_eq q r) refl h (unknown rs a.2 q)
      where
        go : (b : Bool) → ref_eq q r ≡ b → (b || among q rs) ≡ true → (among q rs ≡ true → d.known q ≡ false) → d.known q ≡ false
        go true i j ih = ap d.known (same_ref q r i) ∙ a.0
        go false i j ih = ih j

    not_new : (q : Ref) → d.known q ≡ true → among q (service_refs 0 serve) ≡ false
    not_new q h = go (among q (service_refs 0 serve)) refl
      where
        go : (b : Bool) → among q (service_refs 0 serve) ≡ b → among q (service_refs 0 serve) ≡ false
        go false i = i
        go true i = absurd (not_both (d.known q) h (unknown (service_refs 0 serve) fresh q i))

    -- what is known stays what it was
    stays : (q : Ref) → d.known q ≡ true → named_by F' q ≡ named_by F q
    stays (Live m) h = refl
    stays (Named x zero) h = served_out k serve F x (not_new (Named x 0) h)
    stays (Named x (suc c)) h = absurd (not_both (d.known (Named x (suc c))) h (deep.flat x (suc c) (omega arith)).0)

    -- a new process is one on the other side
    pub record IsNew (q : Ref) : Type 0 where
      pub name : ℕ
      pub is : q ≡ Named name 0
      pub image : named_by F' q ≡ Named name k
      pub before : d.known q ≡ false
      pub after_it : e.known (Named name k) ≡ false

    new_one : (q : Ref) → among q (service_refs 0 serve) ≡ true → IsNew q
    new_one (Live m) h = let u = among_live 0 serve m in absurd cc
    new_one (Named x zero) h = let w = unknown (service_refs 0 serve) fresh (Named x 0) h in record { name = x; is = refl; image = served_in k serve F x h; before = w; after_it = deep.process x w }
    new_one (Named x (suc c)) h = let u = among_deep 0 (suc c) serve x (less_not 0 (suc c) (omega arith)) in absurd cc

    known_new : (p : Ref) (b : Bool) → among p (service_refs 0 serve) ≡ b → (b || d.known p) ≡ true → (among (named_by F' p) (service_refs k serve) || e.known (named_by F' p)) ≡ true
    known_new p true i h =
        let w = new_one p i in
        ap (λ x. among x (service_refs k serve) || e.known x) w.image ∙ ap (λ b. b || e.known (Named w.name k)) (among_depth k serve w.name ∙ subst (λ x. among x (service_refs 0 serve) ≡ true) w.is i)
    known_new p false i h = or_rights _ _ (ap e.known (stays p h) ∙ n.known p h)

    apart_new : (p q : Ref) → among q (service_refs 0 serve) ≡ true → d.known p ≡ true → (ref_eq (named_by F' p) (named_by F' q) ≡ false) × (ref_eq p q ≡ false)
    apart_new p q i h =
        let w = new_one q i in (
          differ_ref (named_by F' p) (named_by F' q) (λ z. not_both (e.known (Named w.name k)) (subst (λ x. e.known x ≡ true) (sym (stays p h) ∙ z ∙ w.image) (n.known p h)) w.after_it),
          differ_ref p q (λ z. not_both (d.known q) (subst (λ x. d.known x ≡ true) z h) w.before),
        )

    apart_both : (p q : Ref) (a b : Bool) → among p (service_refs 0 serve) ≡ a → among q (service_refs 0 serve) ≡ b → (a || d.known p) ≡ true → (b || d.known q) ≡ true → ref_eq (named_by F' p) (named_by F' q) ≡ ref_eq p q
    apart_both p q true true i j h l =
        let u = new_one p i in
        let v = new_one q j in
        ap (λ x. ref_eq x (named_by F' q)) u.image ∙ ap (λ x. ref_eq (Named u.name k) x) v.image ∙ ap (λ b. (u.name == v.name) && b) (true_eq k)
        ∙ sym (ap (λ x. ref_eq x q) u.is ∙ ap (λ x. ref_eq (Named u.name 0) x) v.is)
    apart_both p q true false i j h l = let w = apart_new q p i l in turned_ref (named_by F' q) (named_by F' p) w.0 ∙ sym (turned_ref q p w.1)
    apart_both p q false true i j h l = let w = apart_new p q j h in w.0 ∙ sym w.1
    apart_both p q false false i j h l = ap (λ x. ref_eq x (named_by F' q)) (stays p h) ∙ ap (λ x. ref_eq (named_by F p) x) (stays q l) ∙ n.apart p q h l

    sorts_new : (p : Ref) (x : NameId) (z : Sort) (b : Bool) → among p (service_refs 0 serve) ≡ b → (b || d.known p) ≡ true → (if b then (λ y. None) else d.sorts p) x ≡ Some z → unset (service_refs k serve) e.sorts (named_by F' p) x ≡ Some z
    sorts_new p x z true i h l = absurd cc
    sorts_new p x z false i h l =
        ap (λ y. unset (service_refs k serve) e.sorts y x) (stays p h) ∙ ap (λ (b : Bool). (if b then (λ (y : NameId). None) else e.sorts (named_by F p)) x) (off (among (named_by F p) (service_refs k serve)) refl) ∙ n.sorts p h x z l
      where
        unknown_there : (rs : List (ℕ × NameId)) → AllNew d.known (service_refs 0 rs) → (q : Ref) → among q (service_refs k rs) ≡ true → e.known q ≡ false
        unknown_there [] a q h = absurd cc
        unknown_there (r ∷ rs) a q h = go (ref_eq q (Named r.0 k)) refl h (unknown_there rs a.2 q)
          where
            go : (b : Bool) → ref_eq q (Named r.0 k) ≡ b → (b || among q (service_refs k rs)) ≡ true → (among q (service_refs k rs) ≡ true → e.known q ≡ false) → e.known q ≡ false
            go true i j ih = ap e.known (same_ref q (Named r.0 k) i) ∙ deep.process r.0 a.0
            go false i j ih = ih j

        off : (b : Bool) → among (named_by F p) (service_refs k serve) ≡ b → among (named_by F p) (service_refs k serve) ≡ false
        off false j = j
        off true j = absurd (not_both (e.known (named_by F p)) (n.known p h) (unknown_there serve fresh (named_by F p) j))

    -- ---- sessions

    off_binder : (u : Ref) → HasProtocol (d.protocol u) → ref_eq u (Named s 0) ≡ false
    off_binder u ku = differ_ref u (Named s 0) (λ i. on_or_off (d.protocol (Named s 0)) free (subst (λ x. HasProtocol (d.protocol x)) i ku))

    off_there : (t : Ref) → HasProtocol (e.protocol t) → ref_eq t (Named s k) ≡ false
    off_there t kt = differ_ref t (Named s k) (λ i. on_or_off (e.protocol (Named s k)) free' (subst (λ x. HasProtocol (e.protocol x)) i kt))

    session_stays : (u : Ref) → HasProtocol (d.protocol u) → named_by G' u ≡ named_by G u
    session_stays (Live m) h = refl
    session_stays (Named x zero) h = go (s == x) refl
      where
        go : (b : Bool) → (s == x) ≡ b → (if b then Named s k else G x) ≡ G x
        go false i = refl
        go true i = absurd (not_both (ref_eq (Named x 0) (Named s 0)) (ap (λ y. ref_eq (Named x 0) (Named y 0)) (eqb-true s x i) ∙ self_ref (Named x 0)) (off_binder (Named x 0) h))
    session_stays (Named x (suc c)) h = absurd (on_or_off (d.protocol (Named x (suc c))) (deep.flat x (suc c) (omega arith)).1 h)

    binder_is : (u : Ref) → ref_eq u (Named s 0) ≡ true → named_by G' u ≡ Named s k
    binder_is u i = ap (named_by G') (same_ref u (Named s 0) i) ∙ ap (λ b. if b then Named s k else G s) (true_eq s)

    off_image : (u : Ref) → HasProtocol (d.protocol u) → ref_eq (named_by G' u) (Named s k) ≡ false
    off_image u ku = ap (λ x. ref_eq x (Named s k)) (session_stays u ku) ∙ off_there (named_by G u) (ku.0, n.protocol u ku.0 ku.1)

    on_image : (u : Ref) → ref_eq u (Named s 0) ≡ true → ref_eq (named_by G' u) (Named s k) ≡ true
    on_image u i = ap (λ x. ref_eq x (Named s k)) (binder_is u i) ∙ self_ref (Named s k)

    protocol_new : (u : Ref) (q : NameId) (b : Bool) → ref_eq u (Named s 0) ≡ b → (if b then kind_in f ch else d.protocol u) ≡ Some q → (if ref_eq (named_by G' u) (Named s k) then kind_in f ch else e.protocol (named_by G' u)) ≡ Some q
    protocol_new u q true i h = ap (λ (b : Bool). if b then kind_in f ch else e.protocol (named_by G' u)) (on_image u i) ∙ h
    protocol_new u q false i h = ap (λ (b : Bool). if b then kind_in f ch else e.protocol (named_by G' u)) (off_image u (q, h)) ∙ ap e.protocol (session_stays u (q, h)) ∙ n.protocol u q h

    apart_sessions_new : (u v : Ref) (a b : Bool) → ref_eq u (Named s 0) ≡ a → ref_eq v (Named s 0) ≡ b → HasProtocol (if a then kind_in f ch else d.protocol u) → HasProtocol (if b then kind_in f ch else d.protocol v) → ref_eq (named_by G' u) (named_by G' v) ≡ ref_eq u v
    apart_sessions_new u v true true i j h l =
        let same : u ≡ v = same_ref u (Named s 0) i ∙ sym (same_ref v (Named s 0) j) in
        ap (λ x. ref_eq (named_by G' x) (named_by G' v)) same ∙ self_ref (named_by G' v) ∙ sym (ap (λ x. ref_eq x v) same ∙ self_ref v)
    apart_sessions_new u v true false i j h l =
        ap (λ x. ref_eq x (named_by G' v)) (binder_is u i) ∙ turned_ref (named_by G' v) (Named s k) (off_image v l)
        ∙ sym (ap (λ x. ref_eq x v) (same_ref u (Named s 0) i) ∙ turned_ref v (Named s 0) j)
    apart_sessions_new u v false true i j h l =
        ap (λ x. ref_eq (named_by G' u) x) (binder_is v j) ∙ off_image u h
        ∙ sym (ap (λ x. ref_eq u x) (same_ref v (Named s 0) j) ∙ i)
    apart_sessions_new u v false false i j h l = ap (λ x. ref_eq x (named_by G' v)) (session_stays u h) ∙ ap (λ x. ref_eq (named_by G u) x) (session_stays v l) ∙ n.apart_sessions u v h l

    done_new : (u : Ref) (r : NameId) (b : Bool) → ref_eq u (Named s 0) ≡ b → HasProtocol (if b then kind_in f ch else d.protocol u) → (if ref_eq (named_by G' u) (Named s k) then [] else e.done (named_by G' u) r) ≡ (if b then [] else d.done u r)
    done_new u r true i h = ap (λ (b : Bool). if b then [] else e.done (named_by G' u) r) (on_image u i)
    done_new u r false i h = ap (λ (b : Bool). if b then [] else e.done (named_by G' u) r) (off_image u h) ∙ ap (λ x. e.done x r) (session_stays u h) ∙ n.done u h r

    first_new_one : (rs : List (ℕ × NameId)) → ((q : Ref) → among q (service_refs 0 rs) ≡ true → among q (service_refs 0 serve) ≡ true) → (r : NameId) (q : Ref) → first_with r (as_parts 0 rs) ≡ Some q → first_with r (as_parts k rs) ≡ Some (named_by F' q)
    first_new_one [] w r q h = absurd cc
    first_new_one (x ∷ xs) w r q h = go (x.1.0 == r.0) h (first_new_one xs (λ z i. w z (or_rights _ _ i)) r q)
      where
        go : (b : Bool) → (if b then Some (Named x.0 0) else first_with r (as_parts 0 xs)) ≡ Some q → (first_with r (as_parts 0 xs) ≡ Some q → first_with r (as_parts k xs) ≡ Some (named_by F' q)) → (if b then Some (Named x.0 k) else first_with r (as_parts k xs)) ≡ Some (named_by F' q)
        go false i ih = ih i
        go true i ih =
            let same : Named x.0 0 ≡ q = some_same _ _ i in
            ap Some (sym (ap (named_by F') (sym same) ∙ served_in k serve F x.0 (w (Named x.0 0) (ap (λ b. b || among (Named x.0 0) (service_refs 0 xs)) (self_ref (Named x.0 0))))))

    first_start : (as' : List (Ref × NameId)) → AllKnown d.known (map (λ p. p.0) as') → (r : NameId) (q : Ref) → first_with r (as' ++ as_parts 0 serve) ≡ Some q → first_with r (put_part (named_by F) as' ++ as_parts k serve) ≡ Some (named_by F' q)
    first_start [] a r q h = first_new_one serve (λ z i. i) r q h
    first_start (x ∷ xs) a r q h = go (x.1.0 == r.0) h (first_start xs a.1 r q)
      where
        go : (b : Bool) → (if b then Some x.0 else first_with r (xs ++ as_parts 0 serve)) ≡ Some q → (first_with r (xs ++ as_parts 0 serve) ≡ Some q → first_with r (put_part (named_by F) xs ++ as_parts k serve) ≡ Some (named_by F' q))
            → (if b then Some (named_by F x.0) else first_with r (put_part (named_by F) xs ++ as_parts k serve)) ≡ Some (named_by F' q)
        go false i ih = ih i
        go true i ih = let same : x.0 ≡ q = some_same _ _ i in ap Some (sym (stays x.0 a.0) ∙ ap (named_by F') same)

    module _ (ak : AllKnown d.known (map (λ p. p.0) active)) (held : (u : Ref) (r : NameId) (q : Ref) → d.holder u r ≡ Some q → d.known q ≡ true) where
      holder_new : (u : Ref) (r : NameId) (q : Ref) (b : Bool) → ref_eq u (Named s 0) ≡ b → (if b then first_with r (active ++ as_parts 0 serve) else d.holder u r) ≡ Some q
          → (if ref_eq (named_by G' u) (Named s k) then first_with r (put_part (named_by F) active ++ as_parts k serve) else e.holder (named_by G' u) r) ≡ Some (named_by F' q)
      holder_new u r q true i h = ap (λ (b : Bool). if b then first_with r (put_part (named_by F) active ++ as_parts k serve) else e.holder (named_by G' u) r) (on_image u i) ∙ first_start active ak r q h
      holder_new u r q false i h =
          let ku = n.held u r q h in
          ap (λ (b : Bool). if b then first_with r (put_part (named_by F) active ++ as_parts k serve) else e.holder (named_by G' u) r) (off_image u ku)
          ∙ ap (λ x. e.holder x r) (session_stays u ku) ∙ n.holder u r q h ∙ ap Some (sym (stays q (held u r q h)))

      held_new : (u : Ref) (r : NameId) (q : Ref) (b : Bool) → ref_eq u (Named s 0) ≡ b → (if b then first_with r (active ++ as_parts 0 serve) else d.holder u r) ≡ Some q → HasProtocol (if b then kind_in f ch else d.protocol u)
      held_new u r q true i h = kc
      held_new u r q false i h = n.held u r q h

      others_new : (t : Ref) (q : NameId) (b : Bool) → ref_eq t (Named s k) ≡ b → (if b then kind_in f ch else e.protocol t) ≡ Some q
          → ((u : Ref) × (named_by G' u ≡ t) × (bound_to (Named s 0) (kind_in f ch) d.protocol u ≡ Some q)) ⊎ HasEnded (states_in f q) (λ r. if b then [] else e.done t r)
      others_new t q true i h = inl (Named s 0, binder_is (Named s 0) (self_ref (Named s 0)) ∙ sym (same_ref t (Named s k) i), ap (λ (b : Bool). if b then kind_in f ch else d.protocol (Named s 0)) (self_ref (Named s 0)) ∙ h)
      others_new t q false i h = elim (n.others t q h) [
        | inl u ↦ inl (u.0, session_stays u.0 (q, u.2) ∙ u.1, ap (λ (b : Bool). if b then kind_in f ch else d.protocol u.0) (off_binder u.0 (q, u.2)) ∙ u.2)
        | inr w ↦ inr w
      ]

      pub start_names : Renames (states_in f) (named_by F') (named_by G') old new
      start_names = record {
        live = λ m. refl;
        known = λ p h. known_new p (among p (service_refs 0 serve)) refl h;
        apart = λ p q h i. apart_both p q (among p (service_refs 0 serve)) (among q (service_refs 0 serve)) refl refl h i;
        sorts = λ p h x z i. sorts_new p x z (among p (service_refs 0 serve)) refl h i;
        protocol = λ u q h. protocol_new u q (ref_eq u (Named s 0)) refl h;
        apart_sessions = λ u v h i. apart_sessions_new u v (ref_eq u (Named s 0)) (ref_eq v (Named s 0)) refl refl h i;
        done = λ u h r. done_new u r (ref_eq u (Named s 0)) refl h;
        holder = λ u r q h. holder_new u r q (ref_eq u (Named s 0)) refl h;
        none = λ j r h i. n.none j r h i;
        held = λ u r q h. held_new u r q (ref_eq u (Named s 0)) refl h;
        others = λ t q h. others_new t q (ref_eq t (Named s k)) refl h;
      }

    pub all_new_there : (rs : List (ℕ × NameId)) → AllNew d.known (service_refs 0 rs) → AllNew e.known (service_refs k rs)
    all_new_there [] a = tt
    all_new_there (r ∷ rs) a = (deep.process r.0 a.0, among_depth k rs r.0 ∙ a.1, all_new_there rs a.2)

    or_none : (a b : Bool) → (a || b) ≡ false → (a ≡ false) × (b ≡ false)
    or_none true b h = absurd cc
    or_none false b h = (refl, h)

    pub start_deep : Deep k old new
    start_deep = record {
      process = λ x h. let w = or_none _ _ h in ap (λ b. b || e.known (Named x k)) (among_depth k serve x ∙ w.0) ∙ deep.process x w.1;
      session = λ x h. session x (ref_eq (Named x 0) (Named s 0)) refl h;
      flat = λ x c l. (ap (λ b. b || d.known (Named x c)) (among_deep 0 c serve x (less_not 0 c l)) ∙ (deep.flat x c l).0, ap (λ (b : Bool). if b then kind_in f ch else d.protocol (Named x c)) (off_depth x c 0 (less_not 0 c l)) ∙ (deep.flat x c l).1);
      deeper = λ x c l. (ap (λ b. b || e.known (Named x c)) (among_deep k c serve x (less_not k c l)) ∙ (deep.deeper x c l).0, ap (λ (b : Bool). if b then kind_in f ch else e.protocol (Named x c)) (off_depth x c k (less_not k c l)) ∙ (deep.deeper x c l).1);
    }
      where
        off_depth : (x c l : ℕ) → (c == l) ≡ false → ref_eq (Named x c) (Named s l) ≡ false
        off_depth x c l h = ap (λ b. (x == s) && b) h ∙ go (x == s)
          where
            go : (b : Bool) → (b && false) ≡ false
            go true = refl
            go false = refl

        session : (x : ℕ) (b : Bool) → ref_eq (Named x 0) (Named s 0) ≡ b → (if b then kind_in f ch else d.protocol (Named x 0)) ≡ None → bound_to (Named s k) (kind_in f ch) e.protocol (Named x k) ≡ None
        session x true i h = absurd (on_or_off (kind_in f ch) h kc)
        session x false i h = ap (λ (b : Bool). if b then kind_in f ch else e.protocol (Named x k)) (ap (λ b. (x == s) && b) (true_eq k) ∙ i) ∙ deep.session x h
