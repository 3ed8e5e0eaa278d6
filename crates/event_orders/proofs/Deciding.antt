-- Whether an event happens before another one is decidable.
use Rattle.std.proofs.Common.{◌≡◌, ◌≢◌, ℕ, zero, suc, ◌<◌, ◌≤◌, ◌+◌, Bool, true, false, ◌==◌, List, [], ◌∷◌, take, refl, sym, ap, ◌∙◌, subst, Option, Some, None, arith, inl, inr, ◌⊎◌}
use Rattle.std.specs.Prelude.{slice_get}
use Rattle.std.proofs.lemmas.Bool.{true≢false, cases_lt, cases_eq, eqb-true, eq-eqb, or_left, or_right, or_cases}
use Rattle.chor_base.specs.declared.event.Event.{Event}
use Rattle.chor_base.specs.declared.event.Event.TheVariants as event
use Rattle.chor_base.specs.Events.{Triple, actors_of}
use Rattle.endpoint_code.proofs.Fifo.{same_triple}
use Rattle.event_orders.specs.EventKinds.{EventKind, Sends, Receives, Starts, has_kind, count, is_in, participates}
use Rattle.event_orders.specs.HappensBefore.{IsNth, IsDirectlyBefore, program_order, start_order, message_order, capacity_order, HappensBefore, directly, through}

abbrev pub Decided : Type 0 → Type 0
Decided A = A ⊎ (A → ⊥)

pub both : {A B : Type 0} → Decided A → Decided B → Decided (A × B)
both (inl a) (inl b) = inl (a, b)
both (inl a) (inr n) = inr (λ p. n p.1)
both (inr n) d = inr (λ p. n p.0)

pub either : {A B : Type 0} → Decided A → Decided B → Decided (A ⊎ B)
either (inl a) d = inl (inl a)
either (inr n) (inl b) = inl (inr b)
either {A} {B} (inr n) (inr m) = inr go
  where
    go : A ⊎ B → ⊥
    go (inl a) = n a
    go (inr b) = m b

pub decision : {A : Type 0} → Decided A → Bool
decision (inl a) = true
decision (inr n) = false

pub decision_holds : {A : Type 0} (d : Decided A) → decision d ≡ true → A
unfolding decision
decision_holds (inl a) h = a
decision_holds (inr n) h = absurd (true≢false (sym h))

pub decision_of : {A : Type 0} (d : Decided A) → A → decision d ≡ true
unfolding decision
decision_of (inl a) h = refl
decision_of (inr n) h = absurd (n h)

is_true : (b : Bool) → Decided (b ≡ true)
is_true true = inl refl
is_true false = inr (λ i. true≢false (sym i))

is_less : (i j : ℕ) → Decided (i < j)
is_less i j = go (cases_lt i j)
  where
    go : (i < j) ⊎ (j ≤ i) → Decided (i < j)
    go (inl lt) = inl lt
    go (inr le) = inr (λ lt. omega arith)

-- whether a number below n has a property
pub below : (P : ℕ → Type 0) (n : ℕ) → ((k : ℕ) → k < n → Decided (P k)) → Decided ((k : ℕ) × (k < n) × P k)
below P zero each = inr (λ p. (let lt = p.1 in omega arith))
below P (suc n) each = go (each n (omega arith)) (below P n (λ k lt. each k (omega arith)))
  where
    no_other : (P n → ⊥) → ((k : ℕ) × (k < n) × P k → ⊥) → (p : (k : ℕ) × (k < suc n) × P k) → (p.0 ≡ n) ⊎ (p.0 ≡ n → ⊥) → ⊥
    no_other a b p (inl same) = a (subst P same p.2)
    no_other a b p (inr other) = b (p.0, (let lt = p.1 in let differ : p.0 ≢ n = other in omega arith), p.2)

    go : Decided (P n) → Decided ((k : ℕ) × (k < n) × P k) → Decided ((k : ℕ) × (k < suc n) × P k)
    go (inl a) d = inl (n, omega arith, a)
    go (inr a) (inl (k, lt, b)) = inl (k, omega arith, b)
    go (inr a) (inr b) = inr (λ p. no_other a b p (cases_eq p.0 n))

-- ---- processes and triples

abbrev Shares : List ℕ → List ℕ → Type 0
Shares ps qs = (p : ℕ) × (is_in p ps ≡ true) × (is_in p qs ≡ true)

shares : (ps qs : List ℕ) → Decided (Shares ps qs)
shares [] qs = inr (λ s. true≢false (sym s.1))
shares (p ∷ ps) qs = go (is_true (is_in p qs)) (shares ps qs)
  where
    no_other : (is_in p qs ≡ true → ⊥) → (Shares ps qs → ⊥) → (s : Shares (p ∷ ps) qs) → ((s.0 == p) ≡ true) ⊎ (is_in s.0 ps ≡ true) → ⊥
    no_other a b s (inl same) = a (subst (λ (z : ℕ). is_in z qs ≡ true) (eqb-true s.0 p same) s.2)
    no_other a b s (inr other) = b (s.0, other, s.2)

    go : Decided (is_in p qs ≡ true) → Decided (Shares ps qs) → Decided (Shares (p ∷ ps) qs)
    go (inl a) d = inl (p, or_left (p == p) (is_in p ps) (eq-eqb p p refl), a)
    go (inr a) (inl (q, u, w)) = inl (q, or_right (q == p) (is_in q ps) u, w)
    go (inr a) (inr b) = inr (λ s. no_other a b s (or_cases (s.0 == p) (is_in s.0 ps) s.1))

abbrev triple_of : Event → Option Triple
triple_of (event.Send p s a b l) = Some (s, a, b)
triple_of (event.Recv p s a b l) = Some (s, a, b)
triple_of _ = None

triple_sent : (x : Event) (t : Triple) → has_kind (Sends t) x ≡ true → triple_of x ≡ Some t
triple_sent (event.Send p s a b l) t h = ap Some (sym (same_triple t (s, a, b) h))
triple_sent (event.Recv p s a b l) t h = absurd (true≢false (sym h))
triple_sent (event.Start c s ps) t h = absurd (true≢false (sym h))
triple_sent (event.Test p b) t h = absurd (true≢false (sym h))
triple_sent (event.Set p z v) t h = absurd (true≢false (sym h))
triple_sent (event.Show p v) t h = absurd (true≢false (sym h))
triple_sent (event.Host p z f a b v) t h = absurd (true≢false (sym h))

triple_received : (x : Event) (t : Triple) → has_kind (Receives t) x ≡ true → triple_of x ≡ Some t
triple_received (event.Recv p s a b l) t h = ap Some (sym (same_triple t (s, a, b) h))
triple_received (event.Send p s a b l) t h = absurd (true≢false (sym h))
triple_received (event.Start c s ps) t h = absurd (true≢false (sym h))
triple_received (event.Test p b) t h = absurd (true≢false (sym h))
triple_received (event.Set p z v) t h = absurd (true≢false (sym h))
triple_received (event.Show p v) t h = absurd (true≢false (sym h))
triple_received (event.Host p z f a b v) t h = absurd (true≢false (sym h))

some_triple : (P : Triple → Type 0) (o : Option Triple) → ((t : Triple) → P t → o ≡ Some t) → ((t : Triple) → Decided (P t)) → Decided ((t : Triple) × P t)
some_triple P None only each = inr (λ p. (let f : None ≡ Some p.0 = only p.0 p.1 in absurd cc))
some_triple P (Some u) only each = go (each u)
  where
    go : Decided (P u) → Decided ((t : Triple) × P t)
    go (inl a) = inl (u, a)
    go (inr n) = inr (λ p. n (subst P (let f : Some u ≡ Some p.0 = only p.0 p.1 in let g : p.0 ≡ u = cc in g) p.1))

-- ---- one pair

module _ (h : List Event) (cap : Option ℕ) (i j : ℕ) where
  abbrev Loads : Event → Event → Triple → Type 0
  Loads x y t = (has_kind (Sends t) x ≡ true) × ((has_kind (Receives t) y ≡ true) × (count (Receives t) (take j h) ≡ count (Sends t) (take i h)))

  abbrev Rooms : ℕ → Event → Event → Triple → Type 0
  Rooms c x y t = (has_kind (Receives t) x ≡ true) × ((has_kind (Sends t) y ≡ true) × (count (Sends t) (take j h) ≡ count (Receives t) (take i h) + c))

  abbrev SomeRoom : Event → Event → Type 0
  SomeRoom x y = (c : ℕ) × (t : Triple) × (cap ≡ Some c) × Rooms c x y t

  some_room : (x y : Event) → Decided (SomeRoom x y)
  some_room x y = go cap refl
    where
      go : (o : Option ℕ) → cap ≡ o → Decided (SomeRoom x y)
      go None k = inr (λ p. (let f : Some p.0 ≡ None = sym p.2 ∙ k in absurd cc))
      go (Some c) k = at (some_triple (Rooms c x y) (triple_of x) (λ t r. triple_received x t r.0) (λ t. both (is_true (has_kind (Receives t) x)) (both (is_true (has_kind (Sends t) y)) (cases_eq _ _))))
        where
          at : Decided ((t : Triple) × Rooms c x y t) → Decided (SomeRoom x y)
          at (inl (t, r)) = inl (c, t, k, r)
          at (inr n) = inr (λ p. n (p.1, (let f : Some p.0 ≡ Some c = sym p.2 ∙ k in let g : p.0 ≡ c = cc in subst (λ (z : ℕ). Rooms z x y p.1) g p.3)))

  module _ (x y : Event) (at_i : slice_get h i ≡ Some x) (at_j : slice_get h j ≡ Some y) where
    same_x : (z : Event) → slice_get h i ≡ Some z → z ≡ x
    same_x z there = let k : Some z ≡ Some x = sym there ∙ at_i in cc

    same_y : (z : Event) → slice_get h j ≡ Some z → z ≡ y
    same_y z there = let k : Some z ≡ Some y = sym there ∙ at_j in cc

    abbrev Way : Type 0
    Way = ((i < j) × Shares (actors_of x) (actors_of y)) ⊎ (((i < j) × ((has_kind Starts x ≡ true) × (has_kind Starts y ≡ true))) ⊎ (((t : Triple) × Loads x y t) ⊎ SomeRoom x y))

    way : Decided Way
    way = either (both (is_less i j) (shares (actors_of x) (actors_of y)))
        (either (both (is_less i j) (both (is_true (has_kind Starts x)) (is_true (has_kind Starts y))))
        (either (some_triple (Loads x y) (triple_of x) (λ t r. triple_sent x t r.0) (λ t. both (is_true (has_kind (Sends t) x)) (both (is_true (has_kind (Receives t) y)) (cases_eq _ _)))) (some_room x y)))

    nth_i : (k : EventKind) → has_kind k x ≡ true → IsNth h k i (count k (take i h))
    nth_i k of_kind = record { event = x; there = at_i; of_kind = of_kind; number = refl }

    so : Way → IsDirectlyBefore h cap i j
    so (inl (lt, (p, u, w))) = program_order p lt (record { event = x; there = at_i; part = u }) (record { event = y; there = at_j; part = w })
    so (inr (inl (lt, (u, w)))) = start_order _ (count Starts (take j h)) lt (nth_i Starts u) (record { event = y; there = at_j; of_kind = w; number = refl })
    so (inr (inr (inl (t, r)))) = message_order t _ (nth_i (Sends t) r.0) (record { event = y; there = at_j; of_kind = r.1.0; number = r.1.1 })
    so (inr (inr (inr (c, t, k, r)))) = capacity_order t _ c k (nth_i (Receives t) r.0) (record { event = y; there = at_j; of_kind = r.1.0; number = r.1.1 })

    back : IsDirectlyBefore h cap i j → Way
    back (program_order p lt a b) = inl (lt, (p, subst (λ (z : Event). participates p z ≡ true) (same_x a.event a.there) a.part, subst (λ (z : Event). participates p z ≡ true) (same_y b.event b.there) b.part))
    back (start_order n m lt a b) = inr (inl (lt, (ap (has_kind Starts) (sym (same_x a.event a.there)) ∙ a.of_kind, ap (has_kind Starts) (sym (same_y b.event b.there)) ∙ b.of_kind)))
    back (message_order t n a b) = inr (inr (inl (t, (ap (has_kind (Sends t)) (sym (same_x a.event a.there)) ∙ a.of_kind, (ap (has_kind (Receives t)) (sym (same_y b.event b.there)) ∙ b.of_kind, b.number ∙ sym a.number)))))
    back (capacity_order t n c k a b) = inr (inr (inr (c, t, k, (ap (has_kind (Receives t)) (sym (same_x a.event a.there)) ∙ a.of_kind, (ap (has_kind (Sends t)) (sym (same_y b.event b.there)) ∙ b.of_kind, b.number ∙ ap (λ z. z + c) (sym a.number))))))

    decided_there : Decided (IsDirectlyBefore h cap i j)
    decided_there = go way
      where
        go : Decided Way → Decided (IsDirectlyBefore h cap i j)
        go (inl w) = inl (so w)
        go (inr n) = inr (λ p. n (back p))

  there_i : IsDirectlyBefore h cap i j → (x : Event) × (slice_get h i ≡ Some x)
  there_i (program_order p lt a b) = (a.event, a.there)
  there_i (start_order n m lt a b) = (a.event, a.there)
  there_i (message_order t n a b) = (a.event, a.there)
  there_i (capacity_order t n c k a b) = (a.event, a.there)

  there_j : IsDirectlyBefore h cap i j → (x : Event) × (slice_get h j ≡ Some x)
  there_j (program_order p lt a b) = (b.event, b.there)
  there_j (start_order n m lt a b) = (b.event, b.there)
  there_j (message_order t n a b) = (b.event, b.there)
  there_j (capacity_order t n c k a b) = (b.event, b.there)

  pub directly_before : Decided (IsDirectlyBefore h cap i j)
  directly_before = go (slice_get h i) refl (slice_get h j) refl
    where
      go : (o : Option Event) → slice_get h i ≡ o → (u : Option Event) → slice_get h j ≡ u → Decided (IsDirectlyBefore h cap i j)
      go None a u b = inr (λ p. (let t = there_i p in let f : None ≡ Some t.0 = sym a ∙ t.1 in absurd cc))
      go (Some x) a None b = inr (λ p. (let t = there_j p in let f : None ≡ Some t.0 = sym b ∙ t.1 in absurd cc))
      go (Some x) a (Some y) b = decided_there x y a b

-- ---- the transitive relation

abbrev pub LastStep : List Event → Option ℕ → ℕ → ℕ → Type 0
LastStep h cap i j = (k : ℕ) × ((i ≡ k) ⊎ HappensBefore h cap i k) × IsDirectlyBefore h cap k j

pub last_step : (h : List Event) (cap : Option ℕ) (i j : ℕ) → HappensBefore h cap i j → LastStep h cap i j
last_step h cap i j (directly p) = (i, inl refl, p)
last_step h cap i j (through k a b) = go (last_step h cap k j b)
  where
    go : LastStep h cap k j → LastStep h cap i j
    go (l, inl same, p) = (l, inr (subst (HappensBefore h cap i) same a), p)
    go (l, inr c, p) = (l, inr (through k a c), p)

pub by_last_step : (h : List Event) (cap : Option ℕ) (i k j : ℕ) → (i ≡ k) ⊎ HappensBefore h cap i k → IsDirectlyBefore h cap k j → HappensBefore h cap i j
by_last_step h cap i k j (inl same) p = directly (subst (λ (z : ℕ). IsDirectlyBefore h cap z j) (sym same) p)
by_last_step h cap i k j (inr a) p = through k a (directly p)

module _ (h : List Event) (cap : Option ℕ) (less : (i j : ℕ) → IsDirectlyBefore h cap i j → i < j) where
  happens_within : (n j : ℕ) → j < n → (i : ℕ) → Decided (HappensBefore h cap i j)
  happens_within zero j lt i = absurd (omega arith)
  happens_within (suc n) j lt i = go (below (λ k. ((i ≡ k) ⊎ HappensBefore h cap i k) × IsDirectlyBefore h cap k j) j (λ k l. both (either (cases_eq i k) (happens_within n k (omega arith) i)) (directly_before h cap k j)))
    where
      go : Decided ((k : ℕ) × (k < j) × (((i ≡ k) ⊎ HappensBefore h cap i k) × IsDirectlyBefore h cap k j)) → Decided (HappensBefore h cap i j)
      go (inl (k, l, p)) = inl (by_last_step h cap i k j p.0 p.1)
      go (inr n') = inr (λ a. (let s = last_step h cap i j a in n' (s.0, less s.0 j s.2, (s.1, s.2))))

  pub happens : (i j : ℕ) → Decided (HappensBefore h cap i j)
  happens i j = happens_within (suc j) j (omega arith) i
