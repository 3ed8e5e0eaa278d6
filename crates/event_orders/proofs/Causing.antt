-- The causes of events generate the happens-before relation.
use Rattle.std.proofs.Common.{◌≡◌, ◌≢◌, ℕ, zero, suc, ◌<◌, ◌≤◌, ◌+◌, ◌-◌, true, false, List, length, take, refl, sym, ap, ◌∙◌, subst, Option, Some, None, arith, inl, inr, ◌⊎◌}
use Rattle.std.specs.Prelude.{slice_get}
use Rattle.std.proofs.lemmas.Bool.{true≢false, cases_lt, cases_eq, cases_Bool}
use Rattle.chor_base.specs.declared.event.Event.{Event}
use Rattle.event_orders.specs.EventKinds.{Starts, has_kind, one_if, count, participates}
use Rattle.event_orders.specs.HappensBefore.{IsEventOf, IsNth, IsDirectlyBefore, program_order, start_order, message_order, capacity_order, HappensBefore, directly, through}
use Rattle.event_orders.specs.Causes.{IsCause, last_of_process, previous_start, its_send, its_room, IsTransitiveCause, cause, by_way_of}
use Rattle.std.proofs.lemmas.Option.{slice_get_within}
use Rattle.event_orders.proofs.Counting.{event_at, count_next, count_grows}
use Rattle.event_orders.proofs.Deciding.{Decided}

module _ (h : List Event) (cap : Option ℕ) where
  has_part : (p i : ℕ) → Decided (IsEventOf h p i)
  has_part p i = go (slice_get h i) refl
    where
      go : (o : Option Event) → slice_get h i ≡ o → Decided (IsEventOf h p i)
      go None e = inr (λ a. (let f : None ≡ Some a.event = sym e ∙ a.there in absurd cc))
      go (Some x) e = at (cases_Bool (participates p x))
        where
          at : (participates p x ≡ true) ⊎ (participates p x ≡ false) → Decided (IsEventOf h p i)
          at (inl t) = inl (record { event = x; there = e; part = t })
          at (inr f) = inr (λ a. (let k : Some a.event ≡ Some x = sym a.there ∙ e in let s : a.event ≡ x = cc in true≢false (sym a.part ∙ ap (participates p) s ∙ f)))

  is_start : (i : ℕ) → Decided ((x : Event) × (slice_get h i ≡ Some x) × (has_kind Starts x ≡ true))
  is_start i = go (slice_get h i) refl
    where
      go : (o : Option Event) → slice_get h i ≡ o → Decided ((x : Event) × (slice_get h i ≡ Some x) × (has_kind Starts x ≡ true))
      go None e = inr (λ a. (let f : None ≡ Some a.0 = sym e ∙ a.1 in absurd cc))
      go (Some x) e = at (cases_Bool (has_kind Starts x))
        where
          at : (has_kind Starts x ≡ true) ⊎ (has_kind Starts x ≡ false) → Decided ((y : Event) × (slice_get h i ≡ Some y) × (has_kind Starts y ≡ true))
          at (inl t) = inl (x, e, t)
          at (inr f) = inr (λ a. (let k : Some a.0 ≡ Some x = sym a.1 ∙ e in let s : a.0 ≡ x = cc in true≢false (sym a.2 ∙ ap (has_kind Starts) s ∙ f)))

  -- the last number with a property before n, from i on
  abbrev LastBefore : (ℕ → Type 0) → ℕ → ℕ → Type 0
  LastBefore P i n = (k : ℕ) × (i ≤ k) × (k < n) × P k × ((l : ℕ) → k < l → l < n → P l → ⊥)

  last_before : (P : ℕ → Type 0) → ((k : ℕ) → Decided (P k)) → (i d : ℕ) → P i → LastBefore P i (i + suc d)
  last_before P each i zero p = (i, (omega arith), (omega arith), p, λ l a b q. (let e = a in let f = b in omega arith))
  last_before P each i (suc d) p = go (each (i + suc d)) (last_before P each i d p)
    where
      further : (n m : ℕ) → m ≡ suc n → (P n → ⊥) → LastBefore P i n → LastBefore P i m
      further n m same none (k, a, b, q, later) = (k, a, (omega arith), q, λ l c f g. at l c f g (cases_eq l n))
        where
          at : (l : ℕ) → k < l → l < m → P l → (l ≡ n) ⊎ (l ≡ n → ⊥) → ⊥
          at l c f g (inl is) = none (subst P is g)
          at l c f g (inr other) = later l c (let differ : l ≢ n = other in omega arith) g

      go : Decided (P (i + suc d)) → LastBefore P i (i + suc d) → LastBefore P i (i + suc (suc d))
      go (inl q) more = (i + suc d, (omega arith), (omega arith), q, λ l a b r. (let e = a in let f = b in omega arith))
      go (inr none) more = further (i + suc d) (i + suc (suc d)) (omega arith) none more

  -- two numbers with a property are linked by a chain of such numbers, each the last before the next
  module _ (P : ℕ → Type 0) (each : (k : ℕ) → Decided (P k)) (link : (i j : ℕ) → i < j → P i → P j → ((k : ℕ) → i < k → k < j → P k → ⊥) → IsTransitiveCause h cap i j) where
    chain : (n i j : ℕ) → j < n → i < j → P i → P j → IsTransitiveCause h cap i j
    chain zero i j small lt a b = absurd (omega arith)
    chain (suc n) i j small lt a b = go (last_before P each i (j - suc i) a) (λ k l m c. chain n i k l m a c)
      where
        whole : i + suc (j - suc i) ≡ j
        whole = omega arith

        go : LastBefore P i (i + suc (j - suc i)) → ((k : ℕ) → k < n → i < k → P k → IsTransitiveCause h cap i k) → IsTransitiveCause h cap i j
        go (k, low, high, c, none) more = at (cases_eq i k)
          where
            last : IsTransitiveCause h cap k j
            last = link k j (let e = whole in omega arith) c b (λ l u w q. none l u (let e = whole in omega arith) q)

            at : (i ≡ k) ⊎ (i ≡ k → ⊥) → IsTransitiveCause h cap i j
            at (inl same) = subst (λ (z : ℕ). IsTransitiveCause h cap z j) (sym same) last
            at (inr other) = by_way_of k (more k (let e = whole in omega arith) (let differ : i ≢ k = other in omega arith) c) last

  abbrev pub IsStart : ℕ → Type 0
  IsStart i = (x : Event) × (slice_get h i ≡ Some x) × (has_kind Starts x ≡ true)

  -- where no start is between two places, no start is counted between them
  none_between : (i d : ℕ) → ((k : ℕ) → i < k → k < i + suc d → IsStart k → ⊥) → i + suc d ≤ length h → count Starts (take (i + suc d) h) ≡ count Starts (take (suc i) h)
  none_between i zero none le = ap (λ z. count Starts (take z h)) (let e : i + suc zero ≡ suc i = omega arith in e)
  none_between i (suc d) none le =
      let more : count Starts (take (i + suc d) h) ≡ count Starts (take (suc i) h) = none_between i d (λ k a b s. none k a (omega arith) s) (omega arith) in
      let x = event_at h (i + suc d) (omega arith) in
      let plain : has_kind Starts x.0 ≡ false = at x.0 x.1 (cases_Bool (has_kind Starts x.0)) in
      let next = count_next Starts h (i + suc d) x.0 x.1 in
      let zero_more : one_if (has_kind Starts x.0) ≡ 0 = ap one_if plain in
      let number : count Starts (take (i + suc (suc d)) h) ≡ count Starts (take (suc (i + suc d)) h) = ap (λ z. count Starts (take z h)) (let e : i + suc (suc d) ≡ suc (i + suc d) = omega arith in e) in
      omega arith
    where
      at : (x : Event) → slice_get h (i + suc d) ≡ Some x → (has_kind Starts x ≡ true) ⊎ (has_kind Starts x ≡ false) → has_kind Starts x ≡ false
      at x there (inl t) = absurd (none (i + suc d) (omega arith) (omega arith) (x, there, t))
      at x there (inr f) = f

  -- the next start has one more start before it
  pub next_start : (i j : ℕ) → i < j → (x : Event) → slice_get h i ≡ Some x → has_kind Starts x ≡ true → (y : Event) → slice_get h j ≡ Some y → ((k : ℕ) → i < k → k < j → IsStart k → ⊥) → count Starts (take j h) ≡ count Starts (take i h) + 1
  next_start i j lt x there of_kind y there_j none =
      let whole : i + suc (j - suc i) ≡ j = omega arith in
      let within : j < length h = slice_get_within h j y there_j in
      let c : count Starts (take (i + suc (j - suc i)) h) ≡ count Starts (take (suc i) h) = none_between i (j - suc i) (λ k u w s. none k u (omega arith) s) (omega arith) in
      let d = count_next Starts h i x there in
      let f : one_if (has_kind Starts x) ≡ 1 = ap one_if of_kind in
      let g : count Starts (take (i + suc (j - suc i)) h) ≡ count Starts (take j h) = ap (λ z. count Starts (take z h)) whole in
      omega arith

  start_link : (i j : ℕ) → i < j → IsStart i → IsStart j → ((k : ℕ) → i < k → k < j → IsStart k → ⊥) → IsTransitiveCause h cap i j
  start_link i j lt a b none =
      cause (previous_start (count Starts (take i h)) (record { event = a.0; there = a.1; of_kind = a.2; number = refl })
      (record { event = b.0; there = b.1; of_kind = b.2; number = next_start i j lt a.0 a.1 a.2 b.0 b.1 none }))

  directly_caused : (i j : ℕ) → IsDirectlyBefore h cap i j → IsTransitiveCause h cap i j
  directly_caused i j (program_order p lt a b) = chain (IsEventOf h p) (has_part p) (λ i' j' l u w none. cause (last_of_process p l u w none)) (suc j) i j (omega arith) lt a b
  directly_caused i j (start_order n m lt a b) = chain IsStart is_start start_link (suc j) i j (omega arith) lt (a.event, a.there, a.of_kind) (b.event, b.there, b.of_kind)
  directly_caused i j (message_order t n a b) = cause (its_send t n a b)
  directly_caused i j (capacity_order t n c k a b) = cause (its_room t n c k a b)

  pub happens_caused : (i j : ℕ) → HappensBefore h cap i j → IsTransitiveCause h cap i j
  happens_caused i j (directly p) = directly_caused i j p
  happens_caused i j (through k a b) = by_way_of k (happens_caused i k a) (happens_caused k j b)

  -- a start with fewer starts before it has the lesser place
  pub start_less : (i j n : ℕ) → IsNth h Starts i n → IsNth h Starts j (n + 1) → i < j
  start_less i j n a b = go (cases_lt i j)
    where
      go : (i < j) ⊎ (j ≤ i) → i < j
      go (inl lt) = lt
      go (inr le) = absurd (let c = count_grows Starts h j i le in let u = a.number in let w = b.number in omega arith)

  pub cause_directly : (i j : ℕ) → IsCause h cap i j → IsDirectlyBefore h cap i j
  cause_directly i j (last_of_process p lt a b none) = program_order p lt a b
  cause_directly i j (previous_start n a b) = start_order n (n + 1) (start_less i j n a b) a b
  cause_directly i j (its_send t n a b) = message_order t n a b
  cause_directly i j (its_room t n c k a b) = capacity_order t n c k a b

  pub caused_happens : (i j : ℕ) → IsTransitiveCause h cap i j → HappensBefore h cap i j
  caused_happens i j (cause c) = directly (cause_directly i j c)
  caused_happens i j (by_way_of k a b) = through k (caused_happens i k a) (caused_happens k j b)
