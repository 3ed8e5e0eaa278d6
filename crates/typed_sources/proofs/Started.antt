-- A typed choreography stays typed by a start.
use Rattle.std.proofs.Common.{◌≡◌, ℕ, List, [], ◌∷◌, ◌++◌, map, refl, sym, ap, ◌∙◌, subst, Some, None, Option, Bool, true, false, ◌==◌, ◌||◌, ◌⊎◌, inl, arith, if◌then◌else◌}
use Rattle.chor_base.specs.declared.names.NameId.{NameId}
use Rattle.chor_base.specs.declared.value.Sort.{Sort}
use Rattle.chor_tree.specs.declared.protocol.State.{State}
use Rattle.chor_semantics.specs.Choreography.{Ref, Live, Named, ref_eq, among, Starts, Choreography, put, number_for, numbers_for}
use Rattle.chor_semantics.specs.Steps.{live_parts, new_parts}
use Rattle.well_formed.specs.Holders.{first_with, as_parts}
use Rattle.well_formed.specs.WellFormed.{service_refs}
use Rattle.well_formed.proofs.References.{self_ref, same_ref, left_or, right_or, differ_ref, turned_ref, or_rights}
use Rattle.typed_sources.specs.Context.{Context, bound_to, after}
use Rattle.typed_sources.specs.Typing.{HasProtocol, AllNew, AtCalls, IsTypedIn, HasEnded}
use Rattle.typed_sources.specs.Changes.{lives, started, HoldersInScope, NumbersAreNew}
use Rattle.typed_sources.proofs.Small.{on_or_off}
use Rattle.typed_sources.specs.Renames.{Renames, Stays}
use Rattle.typed_sources.proofs.StartsRenamed.{put_typed}
use Rattle.typed_sources.proofs.NewNumbers.{number_on, number_off, numbers_live, numbers_off, numbers_new, numbers_apart, live_active, first_new}

pub some_same : (a b : Ref) → ◌≡◌ {A = Option Ref} (Some a) (Some b) → a ≡ b
some_same a b h = cc

pub not_both : (b : Bool) → b ≡ true → b ≡ false → ⊥
not_both b i j = cc

abbrev pub pids : List (NameId × ℕ) → List Ref
pids parts = map (λ p. p.0) (lives parts)

among_after : (q : Ref) (xs ys : List Ref) → among q ys ≡ true → among q (xs ++ ys) ≡ true
among_after q [] ys h = h
among_after q (x ∷ xs) ys h = or_rights _ _ (among_after q xs ys h)

lives_append : (xs ys : List (NameId × ℕ)) → lives (xs ++ ys) ≡ lives xs ++ lives ys
lives_append [] ys = refl
lives_append (x ∷ xs) ys = ap (λ l. (Live x.1, x.0) ∷ l) (lives_append xs ys)

pub pids_append : (xs ys : List (NameId × ℕ)) → pids (xs ++ ys) ≡ pids xs ++ pids ys
pids_append [] ys = refl
pids_append (x ∷ xs) ys = ap (λ l. Live x.1 ∷ l) (pids_append xs ys)

pub no_named : (x c : ℕ) (parts : List (NameId × ℕ)) → among (Named x c) (pids parts) ≡ false
no_named x c [] = refl
no_named x c (p ∷ ps) = no_named x c ps

no_new : (m : Ref → Bool) (rs : List Ref) → AllNew m rs → (q : Ref) → m q ≡ true → among q rs ≡ false
no_new m [] a q h = refl
no_new m (r ∷ rs) a q h = go (ref_eq q r) refl (no_new m rs a.2 q h)
  where
    go : (b : Bool) → ref_eq q r ≡ b → among q rs ≡ false → (b || among q rs) ≡ false
    go false i k = k
    go true i k = absurd (not_both (m q) h (ap m (same_ref q r i) ∙ a.0))

first_split : (r : NameId) (xs ys zs : List (Ref × NameId)) (f : Ref → Ref) → ((q : Ref) → first_with r xs ≡ Some q → f q ≡ q) → ((q : Ref) → first_with r ys ≡ Some q → first_with r zs ≡ Some (f q)) → (q : Ref) → first_with r (xs ++ ys) ≡ Some q → first_with r (xs ++ zs) ≡ Some (f q)
first_split r [] ys zs f i j q h = j q h
first_split r (x ∷ xs) ys zs f i j q h = go (x.1.0 == r.0) i h (first_split r xs ys zs f)
  where
    go : (b : Bool) → ((q : Ref) → (if b then Some x.0 else first_with r xs) ≡ Some q → f q ≡ q) → (if b then Some x.0 else first_with r (xs ++ ys)) ≡ Some q
        → (((q : Ref) → first_with r xs ≡ Some q → f q ≡ q) → ((q : Ref) → first_with r ys ≡ Some q → first_with r zs ≡ Some (f q)) → (q : Ref) → first_with r (xs ++ ys) ≡ Some q → first_with r (xs ++ zs) ≡ Some (f q))
        → (if b then Some x.0 else first_with r (xs ++ zs)) ≡ Some (f q)
    go true i k ih = let e = some_same x.0 q k in ap Some (e ∙ sym (i q (ap Some e)))
    go false i k ih = ih i j q k

-- a live process stays
first_live : (r : NameId) (f : Ref → Ref) → ((m : ℕ) → f (Live m) ≡ Live m) → (parts : List (NameId × ℕ)) (q : Ref) → first_with r (lives parts) ≡ Some q → f q ≡ q
first_live r f i [] q h = absurd cc
first_live r f i (p ∷ ps) q h = go (p.0.0 == r.0) h (first_live r f i ps q)
  where
    go : (b : Bool) → (if b then Some (Live p.1) else first_with r (lives ps)) ≡ Some q → (first_with r (lives ps) ≡ Some q → f q ≡ q) → f q ≡ q
    go true k ih = let e = some_same (Live p.1) q k in subst (λ x. f x ≡ x) e (i p.1)
    go false k ih = ih k

module _ (kind : NameId → Option NameId) (states : NameId → List State) (sid pid : ℕ) where
  -- ---- the start at the head

  module _ (e : Context) (ch : NameId) (c k : ℕ) (active : List (Ref × NameId)) (serve : List (ℕ × NameId)) (ps : List (NameId × ℕ))
      (is_live : live_parts active ≡ Some ps) (kc : HasProtocol (kind ch)) (free : e.protocol (Named k c) ≡ None) (fresh : AllNew e.known (service_refs c serve))
      (held : HoldersInScope e) (late : NumbersAreNew e sid pid) where
    abbrev parts : List (NameId × ℕ)
    parts = ps ++ new_parts serve pid

    abbrev f : Ref → Ref
    f = numbers_for c serve pid

    abbrev g : Ref → Ref
    g = number_for k c sid

    abbrev old : Context
    old = after kind e (Starts ch c k active serve)

    abbrev new : Context
    new = started kind e ch sid parts

    off : (s : Ref) → HasProtocol (e.protocol s) → ref_eq s (Named k c) ≡ false
    off s ks = differ_ref s (Named k c) (λ i. on_or_off (e.protocol (Named k c)) free (subst (λ x. HasProtocol (e.protocol x)) i ks))

    off_live : (s : Ref) → HasProtocol (e.protocol s) → ref_eq s (Live sid) ≡ false
    off_live s ks = differ_ref s (Live sid) (λ i. on_or_off (e.protocol (Live sid)) (late.session sid (omega arith)) (subst (λ x. HasProtocol (e.protocol x)) i ks))

    stays : (s : Ref) → HasProtocol (e.protocol s) → g s ≡ s
    stays s ks = number_off k c sid s (off s ks)

    becomes : (s : Ref) → ref_eq s (Named k c) ≡ true → g s ≡ Live sid
    becomes s i = ap g (same_ref s (Named k c) i) ∙ number_on k c sid

    known_stays : (p : Ref) → e.known p ≡ true → f p ≡ p
    known_stays p h = numbers_off c serve pid p (no_new e.known (service_refs c serve) fresh p h)

    -- a service isn't one that was known
    apart_new : (p q : Ref) → among q (service_refs c serve) ≡ true → e.known p ≡ true → (ref_eq (f p) (f q) ≡ false) × (ref_eq p q ≡ false)
    apart_new p q i h =
        let w = numbers_new c serve pid q i in (
          differ_ref (f p) (f q) (λ s. not_both (e.known (Live w.number)) (subst (λ x. e.known x ≡ true) (sym (known_stays p h) ∙ s ∙ w.is) h) (late.process w.number w.later)),
          differ_ref p q (λ s. not_both (among q (service_refs c serve)) i (subst (λ x. among x (service_refs c serve) ≡ false) s (no_new e.known (service_refs c serve) fresh p h))),
        )

    known : (p : Ref) (b : Bool) → among p (service_refs c serve) ≡ b → (b || e.known p) ≡ true → (among (f p) (pids parts) || e.known (f p)) ≡ true
    known p true i h =
        let w = numbers_new c serve pid p i in
        ap (λ x. among x (pids parts) || e.known x) w.is
        ∙ ap (λ b. b || e.known (Live w.number)) (ap (among (Live w.number)) (pids_append ps (new_parts serve pid)) ∙ among_after (Live w.number) (pids ps) (pids (new_parts serve pid)) w.there)
    known p false i h = or_rights _ _ (ap e.known (known_stays p h) ∙ h)

    apart : (p q : Ref) (a b : Bool) → among p (service_refs c serve) ≡ a → among q (service_refs c serve) ≡ b → (a || e.known p) ≡ true → (b || e.known q) ≡ true → ref_eq (f p) (f q) ≡ ref_eq p q
    apart p q true true i j h l = go (ref_eq p q) refl
      where
        go : (b : Bool) → ref_eq p q ≡ b → ref_eq (f p) (f q) ≡ b
        go true s = ap (λ x. ref_eq (f x) (f q)) (same_ref p q s) ∙ self_ref (f q)
        go false s = numbers_apart c serve pid p q i j s
    apart p q true false i j h l = let w = apart_new q p i l in turned_ref (f q) (f p) w.0 ∙ sym (turned_ref q p w.1)
    apart p q false true i j h l = let w = apart_new p q j h in w.0 ∙ sym w.1
    apart p q false false i j h l = ap (λ x. ref_eq x (f q)) (known_stays p h) ∙ ap (λ x. ref_eq p x) (known_stays q l)

    sorts : (p : Ref) (x : NameId) (s : Sort) (b : Bool) → among p (service_refs c serve) ≡ b → (if b then (λ y. None) else e.sorts p) x ≡ Some s → e.sorts (f p) x ≡ Some s
    sorts p x s true i l = absurd cc
    sorts p x s false i l = ap (λ y. e.sorts y x) (numbers_off c serve pid p i) ∙ l

    protocol : (s : Ref) (q : NameId) (b : Bool) → ref_eq s (Named k c) ≡ b → (if b then kind ch else e.protocol s) ≡ Some q → (if ref_eq (g s) (Live sid) then kind ch else e.protocol (g s)) ≡ Some q
    protocol s q true i h = ap (λ x. if ref_eq x (Live sid) then kind ch else e.protocol x) (becomes s i) ∙ ap (λ (b : Bool). if b then kind ch else e.protocol (Live sid)) (self_ref (Live sid)) ∙ h
    protocol s q false i h = ap (λ x. if ref_eq x (Live sid) then kind ch else e.protocol x) (stays s (q, h)) ∙ ap (λ (b : Bool). if b then kind ch else e.protocol s) (off_live s (q, h)) ∙ h

    apart_sessions : (s u : Ref) (a b : Bool) → ref_eq s (Named k c) ≡ a → ref_eq u (Named k c) ≡ b → HasProtocol (if a then kind ch else e.protocol s) → HasProtocol (if b then kind ch else e.protocol u) → ref_eq (g s) (g u) ≡ ref_eq s u
    apart_sessions s u true true i j h l =
        let same : s ≡ u = same_ref s (Named k c) i ∙ sym (same_ref u (Named k c) j) in
        ap (λ x. ref_eq (g x) (g u)) same ∙ self_ref (g u) ∙ sym (ap (λ x. ref_eq x u) same ∙ self_ref u)
    apart_sessions s u true false i j h l =
        ap (λ x. ref_eq x (g u)) (becomes s i) ∙ ap (λ x. ref_eq (Live sid) x) (stays u l) ∙ turned_ref u (Live sid) (off_live u l)
        ∙ sym (ap (λ x. ref_eq x u) (same_ref s (Named k c) i) ∙ turned_ref u (Named k c) j)
    apart_sessions s u false true i j h l =
        ap (λ x. ref_eq x (g u)) (stays s h) ∙ ap (λ x. ref_eq s x) (becomes u j) ∙ off_live s h
        ∙ sym (ap (λ x. ref_eq s x) (same_ref u (Named k c) j) ∙ i)
    apart_sessions s u false false i j h l = ap (λ x. ref_eq x (g u)) (stays s h) ∙ ap (λ x. ref_eq s x) (stays u l)

    done : (s : Ref) (r : NameId) (b : Bool) → ref_eq s (Named k c) ≡ b → HasProtocol (if b then kind ch else e.protocol s) → (if ref_eq (g s) (Live sid) then [] else e.done (g s) r) ≡ (if b then [] else e.done s r)
    done s r true i h = ap (λ x. if ref_eq x (Live sid) then [] else e.done x r) (becomes s i) ∙ ap (λ (b : Bool). if b then [] else e.done (Live sid) r) (self_ref (Live sid))
    done s r false i h = ap (λ x. if ref_eq x (Live sid) then [] else e.done x r) (stays s h) ∙ ap (λ (b : Bool). if b then [] else e.done s r) (off_live s h)

    first_of_start : (r : NameId) (q : Ref) → first_with r (active ++ as_parts c serve) ≡ Some q → first_with r (lives parts) ≡ Some (f q)
    first_of_start r q h =
        let same : lives ps ≡ active = live_active active ps is_live in
        ap (first_with r) (lives_append ps (new_parts serve pid) ∙ ap (λ l. l ++ lives (new_parts serve pid)) same)
        ∙ first_split r active (as_parts c serve) (lives (new_parts serve pid)) f
        (λ z i. first_live r f (numbers_live c serve pid) ps z (ap (first_with r) same ∙ i))
        (λ z i. first_new e.known c serve fresh pid r z i) q h

    holder : (s : Ref) (r : NameId) (q : Ref) (b : Bool) → ref_eq s (Named k c) ≡ b → (if b then first_with r (active ++ as_parts c serve) else e.holder s r) ≡ Some q
        → (if ref_eq (g s) (Live sid) then first_with r (lives parts) else e.holder (g s) r) ≡ Some (f q)
    holder s r q true i h = ap (λ x. if ref_eq x (Live sid) then first_with r (lives parts) else e.holder x r) (becomes s i) ∙ ap (λ (b : Bool). if b then first_with r (lives parts) else e.holder (Live sid) r) (self_ref (Live sid)) ∙ first_of_start r q h
    holder s r q false i h =
        let ks = held.session s r q h in
        ap (λ x. if ref_eq x (Live sid) then first_with r (lives parts) else e.holder x r) (stays s ks) ∙ ap (λ (b : Bool). if b then first_with r (lives parts) else e.holder s r) (off_live s ks) ∙ h ∙ ap Some (sym (known_stays q (held.process s r q h)))

    is_held : (s : Ref) (r : NameId) (q : Ref) (b : Bool) → ref_eq s (Named k c) ≡ b → (if b then first_with r (active ++ as_parts c serve) else e.holder s r) ≡ Some q → HasProtocol (if b then kind ch else e.protocol s)
    is_held s r q true i h = kc
    is_held s r q false i h = held.session s r q h

    none : (n : ℕ) (r : NameId) → HasProtocol (e.protocol (Live n)) → e.holder (Live n) r ≡ None → (if ref_eq (Live n) (Live sid) then first_with r (lives parts) else e.holder (Live n) r) ≡ None
    none n r kn h = ap (λ (b : Bool). if b then first_with r (lives parts) else e.holder (Live n) r) (off_live (Live n) kn) ∙ h

    others : (t : Ref) (q : NameId) (b : Bool) → ref_eq t (Live sid) ≡ b → (if b then kind ch else e.protocol t) ≡ Some q
        → ((s : Ref) × (g s ≡ t) × (bound_to (Named k c) (kind ch) e.protocol s ≡ Some q)) ⊎ HasEnded (states q) (new.done t)
    others t q true i h = inl (Named k c, number_on k c sid ∙ sym (same_ref t (Live sid) i), ap (λ (b : Bool). if b then kind ch else e.protocol (Named k c)) (self_ref (Named k c)) ∙ h)
    others t q false i h = inl (t, stays t (q, h), ap (λ (b : Bool). if b then kind ch else e.protocol t) (off t (q, h)) ∙ h)

    names : Renames states f g old new
    names = record {
      live = λ n. refl;
      known = λ p h. known p (among p (service_refs c serve)) refl h;
      apart = λ p q h i. apart p q (among p (service_refs c serve)) (among q (service_refs c serve)) refl refl h i;
      sorts = λ p h x s i. sorts p x s (among p (service_refs c serve)) refl i;
      protocol = λ s q h. protocol s q (ref_eq s (Named k c)) refl h;
      apart_sessions = λ s u h i. apart_sessions s u (ref_eq s (Named k c)) (ref_eq u (Named k c)) refl refl h i;
      done = λ s h r. done s r (ref_eq s (Named k c)) refl h;
      holder = λ s r q h. holder s r q (ref_eq s (Named k c)) refl h;
      none = none;
      held = λ s r q h. is_held s r q (ref_eq s (Named k c)) refl h;
      others = λ t q h. others t q (ref_eq t (Live sid)) refl h;
    }

    process : (x y : ℕ) → (among (Named x y) (service_refs c serve) || e.known (Named x y)) ≡ false → (f (Named x y) ≡ Named x y) × ((among (Named x y) (pids parts) || e.known (Named x y)) ≡ false)
    process x y h = (numbers_off c serve pid (Named x y) (left_or _ _ h), ap (λ b. b || e.known (Named x y)) (no_named x y parts) ∙ right_or _ _ h)

    session : (x y : ℕ) (b : Bool) → ref_eq (Named x y) (Named k c) ≡ b → (if b then kind ch else e.protocol (Named x y)) ≡ None → (g (Named x y) ≡ Named x y) × (e.protocol (Named x y) ≡ None)
    session x y true i h = absurd (on_or_off (kind ch) h kc)
    session x y false i h = (number_off k c sid (Named x y) i, h)

    names_stay : Stays f g old new
    names_stay = record { process = process; session = λ x y h. session x y (ref_eq (Named x y) (Named k c)) refl h }

    module _ (called : AtCalls)
        (calls : (u v : Ref → Ref) (d e : Context) → Renames states u v d e → Stays u v d e → (h : NameId) (k : ℕ) (ps ss : List Ref) → called d h k ps ss → called e h k (map u ps) (map v ss)) where
      pub begun_typed : (rest : Choreography) → IsTypedIn kind states called old rest → IsTypedIn kind states called new (put f g rest)
      begun_typed rest t = put_typed kind states f g called (calls f g) old new names names_stay rest t
