-- Each role of a session belongs to one process, or to one queue, or to nobody.
use Rattle.std.proofs.Common.{◌≡◌, ℕ, ◌≤◌, ◌+◌, Bool, true, false, cond, ◌==◌, ◌&&◌, List, [], ◌∷◌, ◌++◌, refl, sym, ap, ◌∙◌, subst, Option, Some, None, arith, inl, inr, ◌⊎◌}
use Rattle.std.specs.Prelude.{slice_get}
use Rattle.std.specs.FinMap as fin
use Rattle.std.specs.Ordering.{nat_cmp, eq_by_cmp}
use Rattle.std.proofs.lemmas.Cmp.{nat_cmp_total}
use Rattle.std.proofs.lemmas.Bool.{true≢false, eqb-true, eqb-false, eq-eqb, and_parts, and_from, or_left, or_right}
use Rattle.chor_base.specs.declared.names.NameId.{NameId}
use Rattle.chor_base.specs.declared.value.Value.{Value}
use Rattle.chor_base.specs.declared.value.Value.TheVariants.{Int, Bool as Truth, Text, Part as Endpoint}
use Rattle.chor_base.specs.declared.value.Load.{Load}
use Rattle.chor_base.specs.declared.value.Load.TheVariants.{Value as Carries, Label as Picks}
use Rattle.chor_base.specs.Events.{Triple, triple_eq}
use Rattle.endpoint_code.specs.declared.endpoints.Endpoints.{Endpoints}
use Rattle.endpoint_code.specs.Network.{Sessions, Machine, NetworkState, queue_of, passed, passed_one}
use Rattle.endpoint_code.specs.Faults.{IsScoped, is_among, AreDistinct, one_more}
use Rattle.endpoint_machine.proofs.Bound.{ties}
use Rattle.event_orders.specs.EventKinds.{one_if}

-- ---- roles of sessions

abbrev pub SessionRole : Type 0
SessionRole = ℕ × NameId

abbrev pub part_eq : SessionRole → SessionRole → Bool
part_eq a b = (a.0 == b.0) && (a.1.0 == b.1.0)

pub part_same : (a b : SessionRole) → part_eq a b ≡ true → a ≡ b
part_same a b h =
    let p = and_parts (a.0 == b.0) (a.1.0 == b.1.0) h in
    let s : a.0 ≡ b.0 = eqb-true a.0 b.0 p.0 in
    let r : a.1.0 ≡ b.1.0 = eqb-true a.1.0 b.1.0 p.1 in
    λ i. (s i, record { 0 = r i })

pub part_self : (a : SessionRole) → part_eq a a ≡ true
part_self a = and_from (a.0 == a.0) (a.1.0 == a.1.0) (eq-eqb a.0 a.0 refl) (eq-eqb a.1.0 a.1.0 refl)

pub part_cases : (a b : SessionRole) → (a ≡ b) ⊎ (part_eq a b ≡ false)
part_cases a b = go (part_eq a b) refl
  where
    go : (t : Bool) → part_eq a b ≡ t → (a ≡ b) ⊎ (part_eq a b ≡ false)
    go true h = inl (part_same a b h)
    go false h = inr h

pub data Owner : Type 0 where
  Nobody : Owner
  Process : (p : ℕ) → Owner
  Queue : (t : Triple) → Owner

abbrev pub Owners : Type 0
Owners = SessionRole → Owner

-- the owners, with another owner of one role
abbrev pub given : Owners → SessionRole → Owner → Owners
given o part to = λ other. cond (part_eq part other) to (o other)

pub given_same : (o : Owners) (part : SessionRole) (to : Owner) → given o part to part ≡ to
given_same o part to = ap (λ (b : Bool). cond b to (o part)) (part_self part)

pub given_other : (o : Owners) (part other : SessionRole) (to : Owner) → part_eq part other ≡ false → given o part to other ≡ o other
given_other o part other to h = ap (λ (b : Bool). cond b to (o other)) h

abbrev pub queue_has : Owner → Triple → ℕ
queue_has (Queue u) t = one_if (triple_eq u t)
queue_has (Process p) t = 0
queue_has Nobody t = 0

-- ---- loads

abbrev pub carries : SessionRole → Load → Bool
carries part (Carries (Int z)) = false
carries part (Carries (Truth b)) = false
carries part (Carries (Text t)) = false
carries part (Carries (Endpoint s r)) = part_eq part (s, r)
carries part (Picks l) = false

abbrev pub carried : SessionRole → List Load → ℕ
carried part [] = 0
carried part (l ∷ ls) = one_if (carries part l) + carried part ls

pub carried-append : (part : SessionRole) (a b : List Load) → carried part (a ++ b) ≡ carried part a + carried part b
carried-append part [] b = omega arith
carried-append part (l ∷ a) b = let more = carried-append part a b in omega arith

abbrev pub is_plain : Value → Bool
is_plain (Int z) = true
is_plain (Truth b) = true
is_plain (Text t) = true
is_plain (Endpoint s r) = false

pub plain_none : (v : Value) → is_plain v ≡ true → (part : SessionRole) → carries part (Carries v) ≡ false
plain_none (Int z) h part = refl
plain_none (Truth b) h part = refl
plain_none (Text t) h part = refl
plain_none (Endpoint s r) h part = absurd (true≢false (sym h))

-- ---- maps

turned : {A : Type 0} (x y : ℕ) (a b : A) → cond (eq_by_cmp nat_cmp x y) a b ≡ cond (y == x) a b
turned x y a b = ap (λ t. cond t a b) (ties x y)

pub get_put : {A : Type 0} (m : fin.FinMap nat_cmp A) (k q : ℕ) (b : A) → fin.get (fin.insert m k b) q ≡ cond (k == q) (Some b) (fin.get m q)
get_put m k q b = fin.get-insert nat_cmp_total m k b q ∙ turned q k (Some b) (fin.get m q)

pub get_without : {A : Type 0} (m : fin.FinMap nat_cmp A) (k q : ℕ) → fin.get (fin.remove m k) q ≡ cond (k == q) None (fin.get m q)
get_without m k q = fin.get-remove nat_cmp_total m k q ∙ turned q k None (fin.get m q)

-- the entries of a map with one more
pub put_cases : {A : Type 0} (m : fin.FinMap nat_cmp A) (k q : ℕ) (b v : A) → fin.get (fin.insert m k b) q ≡ Some v → ((k ≡ q) × (b ≡ v)) ⊎ ((k ≡ q → ⊥) × (fin.get m q ≡ Some v))
put_cases {A} m k q b v h = go (k == q) refl (sym (get_put m k q b) ∙ h)
  where
    go : (t : Bool) → (k == q) ≡ t → cond t (Some b) (fin.get m q) ≡ Some v → ((k ≡ q) × (b ≡ v)) ⊎ ((k ≡ q → ⊥) × (fin.get m q ≡ Some v))
    go true e i = inl (eqb-true k q e, cc)
    go false e i = inr (eqb-false k q e, i)

pub without_cases : {A : Type 0} (m : fin.FinMap nat_cmp A) (k q : ℕ) (v : A) → fin.get (fin.remove m k) q ≡ Some v → (k ≡ q → ⊥) × (fin.get m q ≡ Some v)
without_cases {A} m k q v h = go (k == q) refl (sym (get_without m k q) ∙ h)
  where
    go : (t : Bool) → (k == q) ≡ t → cond t None (fin.get m q) ≡ Some v → (k ≡ q → ⊥) × (fin.get m q ≡ Some v)
    go true e i = absurd cc
    go false e i = (eqb-false k q e, i)

-- ---- one process

-- process p owns the roles of these sessions, and no two names are bound to one role
pub record OwnsRoles (o : Owners) (p : ℕ) (m : Sessions) : Type 0 where
  pub owns : (k : ℕ) (part : SessionRole) → fin.get m k ≡ Some part → o part ≡ Process p
  pub single : (k l : ℕ) (part : SessionRole) → fin.get m k ≡ Some part → fin.get m l ≡ Some part → k ≡ l

-- the code of a machine is scoped, and none of its variables is an endpoint
pub record HasScopedCode (e : Endpoints) (w : Machine) : Type 0 where
  pub names : List NameId
  pub scoped : IsScoped e w.at names
  pub plain : (x : ℕ) (v : Value) → fin.get w.vars x ≡ Some v → is_plain v ≡ true

pub record IsOwned (e : Endpoints) (n : NetworkState) (o : Owners) : Type 0 where
  pub fit : (p : ℕ) (w : Machine) → slice_get n.machines p ≡ Some w → HasScopedCode e w
  pub owned : (p : ℕ) (w : Machine) → slice_get n.machines p ≡ Some w → OwnsRoles o p w.sessions
  pub queues : (t : Triple) (part : SessionRole) → carried part (queue_of n t) ≤ queue_has (o part) t
  pub fresh : (part : SessionRole) → n.sid ≤ part.0 → o part ≡ Nobody

pub no_nobody : (p : ℕ) → Nobody ≡ Process p → ⊥
no_nobody p h = absurd cc

pub no_queue : (p : ℕ) (t : Triple) → Queue t ≡ Process p → ⊥
no_queue p t h = absurd cc

pub same_process : (p q : ℕ) → Process p ≡ Process q → p ≡ q
same_process p q h = cc

-- ---- sessions that a call passes

pub empty_owned : (o : Owners) (p : ℕ) → OwnsRoles o p fin.empty
empty_owned o p = record {
  owns = λ k part h. (let f : None ≡ Some part = sym (fin.get-empty nat_cmp k) ∙ h in absurd cc);
  single = λ k l part h g. (let f : None ≡ Some part = sym (fin.get-empty nat_cmp k) ∙ h in absurd cc);
}

-- a session that is passed was there
passed_from : (ks ss : List NameId) (m : Sessions) (k : ℕ) (part : SessionRole) → fin.get (passed ks ss m) k ≡ Some part → (s : NameId) × (is_among s ss ≡ true) × (fin.get m s.0 ≡ Some part)
passed_from [] ss m k part h = (let f : None ≡ Some part = sym (fin.get-empty nat_cmp k) ∙ h in absurd cc)
passed_from (x ∷ ks) [] m k part h = (let f : None ≡ Some part = sym (fin.get-empty nat_cmp k) ∙ h in absurd cc)
passed_from (x ∷ ks) (s ∷ ss) m k part h = go (fin.get m s.0) refl h (λ i. passed_from ks ss m k part i)
  where
    further : (t : NameId) × (is_among t ss ≡ true) × (fin.get m t.0 ≡ Some part) → (t : NameId) × (is_among t (s ∷ ss) ≡ true) × (fin.get m t.0 ≡ Some part)
    further (t, i, j) = (t, or_right (t.0 == s.0) (is_among t ss) i, j)

    go : (b : Option SessionRole) → fin.get m s.0 ≡ b → fin.get (passed_one b x (passed ks ss m)) k ≡ Some part → (fin.get (passed ks ss m) k ≡ Some part → (t : NameId) × (is_among t ss ≡ true) × (fin.get m t.0 ≡ Some part))
        → (t : NameId) × (is_among t (s ∷ ss) ≡ true) × (fin.get m t.0 ≡ Some part)
    go None e i more = further (more i)
    go (Some b) e i more = at (put_cases (passed ks ss m) x.0 k b part i)
      where
        at : ((x.0 ≡ k) × (b ≡ part)) ⊎ ((x.0 ≡ k → ⊥) × (fin.get (passed ks ss m) k ≡ Some part)) → (t : NameId) × (is_among t (s ∷ ss) ≡ true) × (fin.get m t.0 ≡ Some part)
        at (inl (a, c)) = (s, or_left (s.0 == s.0) (is_among s ss) (eq-eqb s.0 s.0 refl), e ∙ ap Some c)
        at (inr (a, c)) = further (more c)

pub distinct_head : {s : NameId} {ss : List NameId} → AreDistinct (s ∷ ss) → is_among s ss ≡ false
distinct_head (one_more h rest) = h

pub distinct_tail : {s : NameId} {ss : List NameId} → AreDistinct (s ∷ ss) → AreDistinct ss
distinct_tail (one_more h rest) = rest

among_number : (a b : NameId) (ss : List NameId) → a.0 ≡ b.0 → is_among a ss ≡ true → is_among b ss ≡ true
among_number a b ss same h = let is : a ≡ b = λ i. record { 0 = same i } in subst (λ (z : NameId). is_among z ss ≡ true) is h

module _ (o : Owners) (p : ℕ) (m : Sessions) (mine : OwnsRoles o p m) where
  passed_single : (ks ss : List NameId) → AreDistinct ss → (k l : ℕ) (part : SessionRole) → fin.get (passed ks ss m) k ≡ Some part → fin.get (passed ks ss m) l ≡ Some part → k ≡ l
  passed_single [] ss d k l part h g = (let f : None ≡ Some part = sym (fin.get-empty nat_cmp k) ∙ h in absurd cc)
  passed_single (x ∷ ks) [] d k l part h g = (let f : None ≡ Some part = sym (fin.get-empty nat_cmp k) ∙ h in absurd cc)
  passed_single (x ∷ ks) (s ∷ ss) d k l part h g = go (fin.get m s.0) refl h g (λ i j. passed_single ks ss (distinct_tail d) k l part i j)
    where
      -- no other session that is passed is bound to the role of the first one
      other : (b : SessionRole) → fin.get m s.0 ≡ Some b → b ≡ part → (q : ℕ) → fin.get (passed ks ss m) q ≡ Some part → ⊥
      other b e same q i =
          let t = passed_from ks ss m q part i in
          let n : t.0.0 ≡ s.0 = mine.single t.0.0 s.0 part t.2 (e ∙ ap Some same) in
          true≢false (sym (among_number t.0 s ss n t.1) ∙ distinct_head d)

      go : (b : Option SessionRole) → fin.get m s.0 ≡ b → fin.get (passed_one b x (passed ks ss m)) k ≡ Some part → fin.get (passed_one b x (passed ks ss m)) l ≡ Some part
          → (fin.get (passed ks ss m) k ≡ Some part → fin.get (passed ks ss m) l ≡ Some part → k ≡ l) → k ≡ l
      go None e i j more = more i j
      go (Some b) e i j more = at (put_cases (passed ks ss m) x.0 k b part i) (put_cases (passed ks ss m) x.0 l b part j)
        where
          at : ((x.0 ≡ k) × (b ≡ part)) ⊎ ((x.0 ≡ k → ⊥) × (fin.get (passed ks ss m) k ≡ Some part)) → ((x.0 ≡ l) × (b ≡ part)) ⊎ ((x.0 ≡ l → ⊥) × (fin.get (passed ks ss m) l ≡ Some part)) → k ≡ l
          at (inl a) (inl c) = sym a.0 ∙ c.0
          at (inl a) (inr c) = absurd (other b e a.1 l c.1)
          at (inr a) (inl c) = absurd (other b e c.1 k a.1)
          at (inr a) (inr c) = more a.1 c.1

  pub passed_owned : (ks ss : List NameId) → AreDistinct ss → OwnsRoles o p (passed ks ss m)
  passed_owned ks ss d = record {
    owns = λ k part h. (let t = passed_from ks ss m k part h in mine.owns t.0.0 part t.2);
    single = passed_single ks ss d;
  }

  -- ---- a role that is given away or gained

  pub removed_owned : (h : ℕ) (part : SessionRole) (t : Triple) → fin.get m h ≡ Some part → OwnsRoles (given o part (Queue t)) p (fin.remove m h)
  removed_owned h part t there = record {
    owns = λ k other g. (let c = without_cases m h k other g in go k other c.0 c.1 (part_cases part other));
    single = λ k l other g i. mine.single k l other (without_cases m h k other g).1 (without_cases m h l other i).1;
  }
    where
      go : (k : ℕ) (other : SessionRole) → (h ≡ k → ⊥) → fin.get m k ≡ Some other → (part ≡ other) ⊎ (part_eq part other ≡ false) → given o part (Queue t) other ≡ Process p
      go k other apart g (inl same) = absurd (apart (mine.single h k part there (g ∙ ap Some (sym same))))
      go k other apart g (inr differ) = given_other o part other (Queue t) differ ∙ mine.owns k other g

  pub gained_owned : (h : ℕ) (part : SessionRole) (t : Triple) → o part ≡ Queue t → OwnsRoles (given o part (Process p)) p (fin.insert m h part)
  gained_owned h part t queued = record {
    owns = λ k other g. owns k other (put_cases m h k part other g);
    single = λ k l other g i. single k l other (put_cases m h k part other g) (put_cases m h l part other i);
  }
    where
      not_mine : (k : ℕ) (other : SessionRole) → part ≡ other → fin.get m k ≡ Some other → ⊥
      not_mine k other same g = no_queue p t (sym queued ∙ ap o same ∙ mine.owns k other g)

      old : (k : ℕ) (other : SessionRole) → fin.get m k ≡ Some other → (part ≡ other) ⊎ (part_eq part other ≡ false) → given o part (Process p) other ≡ Process p
      old k other g (inl same) = absurd (not_mine k other same g)
      old k other g (inr differ) = given_other o part other (Process p) differ ∙ mine.owns k other g

      owns : (k : ℕ) (other : SessionRole) → ((h ≡ k) × (part ≡ other)) ⊎ ((h ≡ k → ⊥) × (fin.get m k ≡ Some other)) → given o part (Process p) other ≡ Process p
      owns k other (inl a) = ap (given o part (Process p)) (sym a.1) ∙ given_same o part (Process p)
      owns k other (inr a) = old k other a.1 (part_cases part other)

      single : (k l : ℕ) (other : SessionRole) → ((h ≡ k) × (part ≡ other)) ⊎ ((h ≡ k → ⊥) × (fin.get m k ≡ Some other)) → ((h ≡ l) × (part ≡ other)) ⊎ ((h ≡ l → ⊥) × (fin.get m l ≡ Some other)) → k ≡ l
      single k l other (inl a) (inl c) = sym a.0 ∙ c.0
      single k l other (inl a) (inr c) = absurd (not_mine l other a.1 c.1)
      single k l other (inr a) (inl c) = absurd (not_mine k other c.1 a.1)
      single k l other (inr a) (inr c) = mine.single k l other a.1 c.1
