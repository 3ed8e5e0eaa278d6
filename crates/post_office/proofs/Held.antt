-- Each role of a session is held at most once, under a name of a process or by a message in transit.
use Rattle.std.proofs.Common.{◌≡◌, ◌≢◌, ℕ, zero, suc, ◌==◌, ◌||◌, ◌⊎◌, inl, inr, Bool, true, false, cond, List, [], ◌∷◌, ◌++◌, length, refl, sym, ap, ◌∙◌, subst, Option, Some, None, arith, if◌then◌else◌}
use Rattle.std.specs.Prelude.{slice_get, slice_set}
use Rattle.std.specs.FinMap as fin
use Rattle.std.specs.Ordering.{nat_cmp, eq_by_cmp}
use Rattle.std.proofs.lemmas.Cmp.{nat_cmp_total}
use Rattle.std.proofs.lemmas.Bool.Decides.{nat_tests}
use Rattle.std.proofs.lemmas.Bool.{eqb-true, eqb-false}
use Rattle.chor_base.proofs.Lists.{get_set_other}
use Rattle.chor_base.specs.declared.names.NameId.{NameId}
use Rattle.chor_base.specs.declared.value.Value.TheVariants.{Part as Endpoint}
use Rattle.chor_base.specs.declared.value.Load.{Load}
use Rattle.chor_base.specs.declared.value.Load.TheVariants.{Value as Carries}
use Rattle.chor_base.specs.Events.{Triple, triple_eq}
use Rattle.endpoint_code.specs.Faults.{AreDistinct, one_more, is_among}
use Rattle.endpoint_code.specs.Network.{Sessions, Machine, NetworkState, queue_of, with_queue, passed, passed_one}
use Rattle.endpoint_code.proofs.Fifo.{same_triple}
use Rattle.endpoint_code.proofs.Queues.{loads-same, loads-other}

-- ---- sessions by names

pub keyed : (a b : ℕ) → eq_by_cmp nat_cmp a b ≡ (a == b)
keyed a b = grind (arith, nat_tests)

-- what a name stands for after another was bound
pub get_bound : (ss : Sessions) (k : ℕ) (v : ℕ × NameId) (q : ℕ) (w : ℕ × NameId) → fin.get (fin.insert ss k v) q ≡ Some w → ((q ≡ k) × (v ≡ w)) ⊎ ((q ≢ k) × (fin.get ss q ≡ Some w))
get_bound ss k v q w h = go (q == k) refl (sym (fin.get-insert nat_cmp_total ss k v q ∙ ap (λ b. cond b (Some v) (fin.get ss q)) (keyed q k)) ∙ h)
  where
    go : (b : Bool) → (q == k) ≡ b → cond (q == k) (Some v) (fin.get ss q) ≡ Some w → ((q ≡ k) × (v ≡ w)) ⊎ ((q ≢ k) × (fin.get ss q ≡ Some w))
    go true e i = (let j : Some v ≡ Some w = sym (ap (λ b. cond b (Some v) (fin.get ss q)) e) ∙ i in inl (eqb-true q k e, cc))
    go false e i = inr (eqb-false q k e, sym (ap (λ b. cond b (Some v) (fin.get ss q)) e) ∙ i)

pub get_unbound : (ss : Sessions) (k q : ℕ) (w : ℕ × NameId) → fin.get (fin.remove ss k) q ≡ Some w → (q ≢ k) × (fin.get ss q ≡ Some w)
get_unbound ss k q w h = go (q == k) refl (sym (fin.get-remove nat_cmp_total ss k q ∙ ap (λ b. cond b None (fin.get ss q)) (keyed q k)) ∙ h)
  where
    go : (b : Bool) → (q == k) ≡ b → cond (q == k) None (fin.get ss q) ≡ Some w → (q ≢ k) × (fin.get ss q ≡ Some w)
    go true e i = (let j : None ≡ Some w = sym (ap (λ b. cond b None (fin.get ss q)) e) ∙ i in absurd cc)
    go false e i = (eqb-false q k e, sym (ap (λ b. cond b None (fin.get ss q)) e) ∙ i)

-- no two names stand for one role
abbrev pub AreOnce : Sessions → Type 0
AreOnce ss = (k j : ℕ) (v : ℕ × NameId) → fin.get ss k ≡ Some v → fin.get ss j ≡ Some v → k ≡ j

-- what the one stands for, the other stands for too
abbrev pub AreFrom : Sessions → Sessions → Type 0
AreFrom ss ts = (k : ℕ) (v : ℕ × NameId) → fin.get ss k ≡ Some v → (j : ℕ) × (fin.get ts j ≡ Some v)

pub none_bound : (q : ℕ) (w : ℕ × NameId) → fin.get (fin.empty {R = nat_cmp}) q ≡ Some w → ⊥
none_bound q w h = (let j : None ≡ Some w = sym (fin.get-empty nat_cmp q) ∙ h in absurd cc)

-- a passed session stands among those that were passed
passed_among : (ks ss : List NameId) (m : Sessions) (k : ℕ) (v : ℕ × NameId) → fin.get (passed ks ss m) k ≡ Some v → (s : NameId) × (is_among s ss ≡ true) × (fin.get m s.0 ≡ Some v)
passed_among [] ss m k v h = absurd (none_bound k v h)
passed_among (q ∷ ks) [] m k v h = absurd (none_bound k v h)
passed_among (q ∷ ks) (s ∷ ss) m k v h = go (fin.get m s.0) refl h (λ i. passed_among ks ss m k v i)
  where
    found : (b : Bool) → (x : NameId) → is_among x ss ≡ true → (b || is_among x ss) ≡ true
    found true x i = refl
    found false x i = i

    own : (b : Bool) → b ≡ true → (b || is_among s ss) ≡ true
    own true i = refl
    own false i = absurd cc

    same : (s.0 == s.0) ≡ true
    same = grind (arith, nat_tests)

    go : (o : Option (ℕ × NameId)) → fin.get m s.0 ≡ o → fin.get (passed_one o q (passed ks ss m)) k ≡ Some v → (fin.get (passed ks ss m) k ≡ Some v → (x : NameId) × (is_among x ss ≡ true) × (fin.get m x.0 ≡ Some v)) → (x : NameId) × (is_among x (s ∷ ss) ≡ true) × (fin.get m x.0 ≡ Some v)
    go None f i more = (let r = more i in (r.0, found (r.0.0 == s.0) r.0 r.1, r.2))
    go (Some b) f i more = elim (get_bound (passed ks ss m) q.0 b k v i) [
      | inl e ↦ (s, own (s.0 == s.0) same, f ∙ ap Some e.1)
      | inr e ↦ (let r = more e.1 in (r.0, found (r.0.0 == s.0) r.0 r.1, r.2))
    ]

pub passed_from : (ks ss : List NameId) (m : Sessions) → AreFrom (passed ks ss m) m
passed_from ks ss m k v h = let r = passed_among ks ss m k v h in (r.0.0, r.2)

among_same : (x y : NameId) (ss : List NameId) → x.0 ≡ y.0 → is_among x ss ≡ true → is_among y ss ≡ true
among_same x y ss e h = subst (λ (z : NameId). is_among z ss ≡ true) (ap (λ (n : ℕ). let r : NameId = record { 0 = n } in r) e) h

pub passed_once : (ks ss : List NameId) (m : Sessions) → AreDistinct ss → AreOnce m → AreOnce (passed ks ss m)
passed_once [] ss m d once k j v h g = absurd (none_bound k v h)
passed_once (q ∷ ks) [] m d once k j v h g = absurd (none_bound k v h)
passed_once (q ∷ ks) (s ∷ ss) m (one_more apart d) once k j v h g = go (fin.get m s.0) refl h g (λ a b. passed_once ks ss m d once k j v a b)
  where
    clash : fin.get m s.0 ≡ Some v → (i : ℕ) → fin.get (passed ks ss m) i ≡ Some v → ⊥
    clash f i a =
        let r = passed_among ks ss m i v a in
        let same : r.0.0 ≡ s.0 = once r.0.0 s.0 v r.2 f in
        let yes = among_same r.0 s ss same r.1 in
        cc

    go : (o : Option (ℕ × NameId)) → fin.get m s.0 ≡ o → fin.get (passed_one o q (passed ks ss m)) k ≡ Some v → fin.get (passed_one o q (passed ks ss m)) j ≡ Some v → (fin.get (passed ks ss m) k ≡ Some v → fin.get (passed ks ss m) j ≡ Some v → k ≡ j) → k ≡ j
    go None f a b more = more a b
    go (Some w) f a b more = both (get_bound (passed ks ss m) q.0 w k v a) (get_bound (passed ks ss m) q.0 w j v b)
      where
        both : ((k ≡ q.0) × (w ≡ v)) ⊎ ((k ≢ q.0) × (fin.get (passed ks ss m) k ≡ Some v)) → ((j ≡ q.0) × (w ≡ v)) ⊎ ((j ≢ q.0) × (fin.get (passed ks ss m) j ≡ Some v)) → k ≡ j
        both (inl x) (inl y) = x.0 ∙ sym y.0
        both (inl x) (inr y) = absurd (clash (f ∙ ap Some x.1) j y.1)
        both (inr x) (inl y) = absurd (clash (f ∙ ap Some y.1) k x.1)
        both (inr x) (inr y) = more x.1 y.1

-- ---- holders

-- a process under the number of a name, or a message by its place in a queue
pub data Holder : Type 0 where
  Process : (p k : ℕ) → Holder
  Transit : (t : Triple) (i : ℕ) → Holder

abbrev pub held_by : Option Machine → ℕ → Option (ℕ × NameId)
held_by None k = None
held_by (Some m) k = fin.get m.sessions k

abbrev pub HoldsAt : NetworkState → ℕ × NameId → Holder → Type 0
HoldsAt n v (Process p k) = held_by (slice_get n.machines p) k ≡ Some v
HoldsAt n v (Transit t i) = slice_get (queue_of n t) i ≡ Some (Carries (Endpoint v.0 v.1))

abbrev pub IsUnique : NetworkState → Type 0
IsUnique n = (v : ℕ × NameId) (l m : Holder) → HoldsAt n v l → HoldsAt n v m → l ≡ m

abbrev pub IsNowhere : NetworkState → ℕ × NameId → Type 0
IsNowhere n v = (l : Holder) → HoldsAt n v l → ⊥

pub process_same : (p q k j : ℕ) → Process p k ≡ Process q j → (p ≡ q) × (k ≡ j)
process_same p q k j h = (cc, cc)

pub once_in : (n : NetworkState) (p : ℕ) (m : Machine) → IsUnique n → slice_get n.machines p ≡ Some m → AreOnce m.sessions
once_in n p m unique f k j v h g =
    (process_same p p k j (unique v (Process p k) (Process p j) (ap (λ (o : Option Machine). held_by o k) f ∙ h) (ap (λ (o : Option Machine). held_by o j) f ∙ g))).1

-- ---- fewer holders, and one more

pub fewer_unique : (n k : NetworkState) → ((v : ℕ × NameId) (l : Holder) → HoldsAt k v l → HoldsAt n v l) → IsUnique n → IsUnique k
fewer_unique n k to unique v l m a b = unique v l m (to v l a) (to v m b)

pub added_unique : (n k : NetworkState) (w : ℕ × NameId) (at : Holder) → ((v : ℕ × NameId) (l : Holder) → HoldsAt k v l → ((l ≡ at) × (w ≡ v)) ⊎ HoldsAt n v l) → IsNowhere n w → IsUnique n → IsUnique k
added_unique n k w at split none unique v l m a b = go (split v l a) (split v m b)
  where
    go : ((l ≡ at) × (w ≡ v)) ⊎ HoldsAt n v l → ((m ≡ at) × (w ≡ v)) ⊎ HoldsAt n v m → l ≡ m
    go (inl x) (inl y) = x.0 ∙ sym y.0
    go (inl x) (inr y) = absurd (none m (subst (λ (u : ℕ × NameId). HoldsAt n u m) (sym x.1) y))
    go (inr x) (inl y) = absurd (none l (subst (λ (u : ℕ × NameId). HoldsAt n u l) (sym y.1) x))
    go (inr x) (inr y) = unique v l m x y

-- ---- a process whose sessions have become others

pub set_own : (ms : List Machine) (p : ℕ) (m w : Machine) → slice_get ms p ≡ Some w → slice_get (slice_set ms p m) p ≡ Some m
set_own [] p m w h = absurd cc
set_own (x ∷ ms) zero m w h = refl
set_own (x ∷ ms) (suc p) m w h = set_own ms p m w h

module _ (n : NetworkState) (p : ℕ) (w m : Machine) (there : slice_get n.machines p ≡ Some w) where
  -- the state with another machine for the process
  abbrev pub replaced : NetworkState
  replaced = record n { machines = slice_set n.machines p m }

  pub own_held : (k : ℕ) (v : ℕ × NameId) → held_by (slice_get replaced.machines p) k ≡ Some v → fin.get m.sessions k ≡ Some v
  own_held k v h = sym (ap (λ (o : Option Machine). held_by o k) (set_own n.machines p m w there)) ∙ h

  pub held_own : (k : ℕ) (v : ℕ × NameId) → fin.get m.sessions k ≡ Some v → held_by (slice_get replaced.machines p) k ≡ Some v
  held_own k v h = ap (λ (o : Option Machine). held_by o k) (set_own n.machines p m w there) ∙ h

  pub other_held : (q k : ℕ) (v : ℕ × NameId) → q ≢ p → held_by (slice_get replaced.machines q) k ≡ Some v → held_by (slice_get n.machines q) k ≡ Some v
  other_held q k v apart h = sym (ap (λ (o : Option Machine). held_by o k) (get_set_other n.machines p q m apart)) ∙ h

  -- who held it before
  pub was_held : AreFrom m.sessions w.sessions → (v : ℕ × NameId) (l : Holder) → HoldsAt replaced v l → (o : Holder) × HoldsAt n v o
  was_held from v (Transit t i) h = (Transit t i, h)
  was_held from v (Process q k) h = go (q == p) refl
    where
      go : (b : Bool) → (q == p) ≡ b → (o : Holder) × HoldsAt n v o
      go true e =
          let own = own_held k v (subst (λ x. held_by (slice_get replaced.machines x) k ≡ Some v) (eqb-true q p e) h) in
          let old = from k v own in
          (Process p old.0, ap (λ (o : Option Machine). held_by o old.0) there ∙ old.1)
      go false e = (Process q k, other_held q k v (eqb-false q p e) h)

  pub replaced_unique : AreFrom m.sessions w.sessions → AreOnce m.sessions → IsUnique n → IsUnique replaced
  replaced_unique from once unique v (Transit t i) (Transit u j) a b = unique v (Transit t i) (Transit u j) a b
  replaced_unique from once unique v (Transit t i) (Process q k) a b = go (q == p) refl
    where
      go : (r : Bool) → (q == p) ≡ r → Transit t i ≡ Process q k
      go true e =
          let own = own_held k v (subst (λ x. held_by (slice_get replaced.machines x) k ≡ Some v) (eqb-true q p e) b) in
          let old = from k v own in
          let clash : Transit t i ≡ Process p old.0 = unique v (Transit t i) (Process p old.0) a (ap (λ (o : Option Machine). held_by o old.0) there ∙ old.1) in
          absurd cc
      go false e = unique v (Transit t i) (Process q k) a (other_held q k v (eqb-false q p e) b)
  replaced_unique from once unique v (Process q k) (Transit t i) b a = go (q == p) refl
    where
      go : (r : Bool) → (q == p) ≡ r → Process q k ≡ Transit t i
      go true e =
          let own = own_held k v (subst (λ x. held_by (slice_get replaced.machines x) k ≡ Some v) (eqb-true q p e) b) in
          let old = from k v own in
          let clash : Transit t i ≡ Process p old.0 = unique v (Transit t i) (Process p old.0) a (ap (λ (o : Option Machine). held_by o old.0) there ∙ old.1) in
          absurd cc
      go false e = unique v (Process q k) (Transit t i) (other_held q k v (eqb-false q p e) b) a
  replaced_unique from once unique v (Process q k) (Process r j) a b = go (q == p) refl (r == p) refl
    where
      own : (x y : ℕ) → (x == p) ≡ true → held_by (slice_get replaced.machines x) y ≡ Some v → fin.get m.sessions y ≡ Some v
      own x y e h = own_held y v (subst (λ z. held_by (slice_get replaced.machines z) y ≡ Some v) (eqb-true x p e) h)

      clash : (x y z : ℕ) → (x == p) ≡ false → held_by (slice_get replaced.machines x) y ≡ Some v → fin.get m.sessions z ≡ Some v → ⊥
      clash x y z e h g =
          let old = from z v g in
          let same = process_same p x old.0 y (unique v (Process p old.0) (Process x y) (ap (λ (o : Option Machine). held_by o old.0) there ∙ old.1) (other_held x y v (eqb-false x p e) h)) in
          eqb-false x p e (sym same.0)

      go : (s : Bool) → (q == p) ≡ s → (t : Bool) → (r == p) ≡ t → Process q k ≡ Process r j
      go true e true f =
          let same : k ≡ j = once k j v (own q k e a) (own r j f b) in
          let one : q ≡ p = eqb-true q p e in
          let two : r ≡ p = eqb-true r p f in
          cc
      go true e false f = absurd (clash r j k f b (own q k e a))
      go false e true f = absurd (clash q k j e a (own r j f b))
      go false e false f = unique v (Process q k) (Process r j) (other_held q k v (eqb-false q p e) a) (other_held r j v (eqb-false r p f) b)

-- ---- queues

pub queue_after : (n : NetworkState) (t u : Triple) (ls : List Load) → queue_of (with_queue n t ls) u ≡ (if triple_eq t u then ls else queue_of n u)
queue_after n t u ls = go (triple_eq t u) refl
  where
    go : (b : Bool) → triple_eq t u ≡ b → queue_of (with_queue n t ls) u ≡ (if triple_eq t u then ls else queue_of n u)
    go true e = rw e (subst (λ (w : Triple). queue_of (with_queue n t ls) w ≡ ls) (same_triple t u e) (loads-same n.queues t ls))
    go false e = rw e (loads-other n.queues t u ls e)

-- the last load of a queue, or one before it
in_front : (ls : List Load) (l k : Load) (i : ℕ) → slice_get (ls ++ l ∷ []) i ≡ Some k → ((i ≡ length ls) × (l ≡ k)) ⊎ (slice_get ls i ≡ Some k)
in_front [] l k zero h = inl (refl, cc)
in_front [] l k (suc i) h = absurd cc
in_front (x ∷ ls) l k zero h = inr h
in_front (x ∷ ls) l k (suc i) h = elim (in_front ls l k i h) [ inl e ↦ inl (ap suc e.0, e.1) | inr e ↦ inr e ]

module _ (n : NetworkState) (t : Triple) (l : Load) where
  -- a load is put into a queue
  abbrev pub put : NetworkState
  put = with_queue n t (queue_of n t ++ l ∷ [])

  pub put_split : (v : ℕ × NameId) (o : Holder) → HoldsAt put v o → ((o ≡ Transit t (length (queue_of n t))) × (l ≡ Carries (Endpoint v.0 v.1))) ⊎ HoldsAt n v o
  put_split v (Process p k) h = inr h
  put_split v (Transit u i) h = go (triple_eq t u) refl (sym (ap (λ ls. slice_get ls i) (queue_after n t u (queue_of n t ++ l ∷ []))) ∙ h)
    where
      go : (b : Bool) → triple_eq t u ≡ b → slice_get (if triple_eq t u then queue_of n t ++ l ∷ [] else queue_of n u) i ≡ Some (Carries (Endpoint v.0 v.1)) → ((Transit u i ≡ Transit t (length (queue_of n t))) × (l ≡ Carries (Endpoint v.0 v.1))) ⊎ HoldsAt n v (Transit u i)
      go true e g =
          let is : t ≡ u = same_triple t u e in
          let own : slice_get (queue_of n t ++ l ∷ []) i ≡ Some (Carries (Endpoint v.0 v.1)) = sym (ap (λ b. slice_get (if b then queue_of n t ++ l ∷ [] else queue_of n u) i) e) ∙ g in
          elim (in_front (queue_of n t) l (Carries (Endpoint v.0 v.1)) i own) [
            | inl x ↦ inl (ap (λ (w : Triple). Transit w i) (sym is) ∙ ap (Transit t) x.0, x.1)
            | inr x ↦ inr (subst (λ (w : Triple). slice_get (queue_of n w) i ≡ Some (Carries (Endpoint v.0 v.1))) is x)
          ]
      go false e g = inr (sym (ap (λ b. slice_get (if b then queue_of n t ++ l ∷ [] else queue_of n u) i) e) ∙ g)

module _ (n : NetworkState) (t : Triple) (l : Load) (rest : List Load) (is : queue_of n t ≡ l ∷ rest) where
  -- the first load of a queue is taken
  abbrev pub taken : NetworkState
  taken = with_queue n t rest

  -- where it was before
  abbrev pub before : Holder → Holder
  before (Process p k) = Process p k
  before (Transit u i) = Transit u (if triple_eq t u then suc i else i)

  pub taken_before : (v : ℕ × NameId) (o : Holder) → HoldsAt taken v o → HoldsAt n v (before o)
  taken_before v (Process p k) h = h
  taken_before v (Transit u i) h = go (triple_eq t u) refl (sym (ap (λ ls. slice_get ls i) (queue_after n t u rest)) ∙ h)
    where
      go : (b : Bool) → triple_eq t u ≡ b → slice_get (if triple_eq t u then rest else queue_of n u) i ≡ Some (Carries (Endpoint v.0 v.1)) → slice_get (queue_of n u) (if triple_eq t u then suc i else i) ≡ Some (Carries (Endpoint v.0 v.1))
      go true e g =
          let same : t ≡ u = same_triple t u e in
          let queue : queue_of n u ≡ l ∷ rest = subst (λ (w : Triple). queue_of n w ≡ l ∷ rest) same is in
          ap (λ b. slice_get (queue_of n u) (if b then suc i else i)) e ∙ ap (λ ls. slice_get ls (suc i)) queue ∙ sym (ap (λ b. slice_get (if b then rest else queue_of n u) i) e) ∙ g
      go false e g = ap (λ b. slice_get (queue_of n u) (if b then suc i else i)) e ∙ sym (ap (λ b. slice_get (if b then rest else queue_of n u) i) e) ∙ g

  before_same : (o q : Holder) → before o ≡ before q → o ≡ q
  before_same (Process p k) (Process q j) h = h
  before_same (Process p k) (Transit u i) h = absurd cc
  before_same (Transit u i) (Process p k) h = absurd cc
  before_same (Transit u i) (Transit w j) h =
      let same : u ≡ w = cc in
      let place : (if triple_eq t u then suc i else i) ≡ (if triple_eq t w then suc j else j) = cc in
      let aligned : (if triple_eq t u then suc i else i) ≡ (if triple_eq t u then suc j else j) = place ∙ ap (λ (x : Triple). if triple_eq t x then suc j else j) (sym same) in
      go (triple_eq t u) aligned same
    where
      go : (b : Bool) → (if b then suc i else i) ≡ (if b then suc j else j) → u ≡ w → Transit u i ≡ Transit w j
      go true e same = let f : i ≡ j = omega arith in cc
      go false e same = cc

  pub taken_unique : IsUnique n → IsUnique taken
  taken_unique unique v o q a b = before_same o q (unique v (before o) (before q) (taken_before v o a) (taken_before v q b))

  -- the endpoint that was taken is nowhere
  pub taken_nowhere : IsUnique n → (v : ℕ × NameId) → l ≡ Carries (Endpoint v.0 v.1) → IsNowhere taken v
  taken_nowhere unique v e o h =
      let first : HoldsAt n v (Transit t 0) = ap (λ ls. slice_get ls 0) is ∙ ap Some e in
      let clash : before o ≡ Transit t 0 = unique v (before o) (Transit t 0) (taken_before v o h) first in
      not_first o h clash
    where
      not_first : (o : Holder) → HoldsAt taken v o → before o ≡ Transit t 0 → ⊥
      not_first (Process p k) h c = absurd cc
      not_first (Transit u i) h c =
          let same : u ≡ t = cc in
          let place : (if triple_eq t u then suc i else i) ≡ 0 = cc in
          let yes : triple_eq t u ≡ true = subst (λ (x : Triple). triple_eq t x ≡ true) (sym same) (grind (arith, nat_tests)) in
          let far : suc i ≡ 0 = sym (ap (λ b. if b then suc i else i) yes) ∙ place in
          absurd (omega arith)
