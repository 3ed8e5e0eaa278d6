-- A scan of the first events finds the causes of the next one.
use Rattle.std.proofs.Common.{◌≡◌, ◌≢◌, ℕ, zero, suc, ◌<◌, ◌≤◌, ◌+◌, ◌-◌, Bool, true, false, ◌==◌, ◌&&◌, nat_lt, List, [], ◌∷◌, ◌++◌, take, refl, sym, ap, ◌∙◌, subst, Option, Some, None, arith, inl, inr, ◌⊎◌, if◌then◌else◌, option_to_list}
use Rattle.std.specs.Prelude.{slice_get}
use Rattle.std.proofs.lemmas.Bool.{true≢false, cases_lt, cases_eq, and_parts, and_from, eqb-true, eq-eqb, or_cases, or_left, or_right, le-ltb, lt-ltb}
use Rattle.chor_base.specs.declared.event.Event.{Event}
use Rattle.chor_base.specs.declared.event.Event.TheVariants as event
use Rattle.chor_base.specs.Events.{Triple, actors_of}
use Rattle.endpoint_code.proofs.Queues.{triple_same}
use Rattle.endpoint_code.proofs.Fifo.{same_triple}
use Rattle.event_orders.specs.EventKinds.{EventKind, Sends, Receives, Starts, has_kind, one_if, count, is_in, participates}
use Rattle.event_orders.specs.HappensBefore.{IsNth, IsDirectlyBefore}
use Rattle.event_orders.specs.Causes.{IsCause, last_of_process as last_cause, previous_start, its_send, its_room}
use Rattle.event_orders.proofs.Listed.{IsListed}
use Rattle.event_orders.proofs.Counting.{count_next, count_grows}
use Rattle.event_orders.proofs.Causing.{next_start, start_less, cause_directly}
use Rattle.causal_order.specs.declared.index.EventIndex.{EventIndex}
use Rattle.causal_order.specs.declared.scan.Scan.{Scan}
use Rattle.causal_order.specs.Index.{count_on, place_on, HasOneMore}
use Rattle.causal_order.specs.Scan.{last_event_of}
use Rattle.causal_order.specs.Found.{other_cause, last_events, send_of_next, room_of_next, causes_found}
use Rattle.causal_order.specs.Adding.{HasAdded}
use Rattle.causal_order.specs.Scanned.{latest, event_passes, is_nth, IsIndexOf, HasScanned}

-- ---- the greatest of the numbers that pass

pub record IsLatest (f : ℕ → Bool) (n i : ℕ) : Type 0 where
  pub below : i < n
  pub passed : f i ≡ true
  pub later : (k : ℕ) → i < k → k < n → f k ≡ true → ⊥

latest_is : (f : ℕ → Bool) (n i : ℕ) → latest f n ≡ Some i → IsLatest f n i
latest_is f zero i h = absurd cc
latest_is f (suc n) i h = go (f n) refl h (λ k. latest_is f n i k)
  where
    go : (b : Bool) → f n ≡ b → (if b then Some n else latest f n) ≡ Some i → (latest f n ≡ Some i → IsLatest f n i) → IsLatest f (suc n) i
    go true e k more = let same : n ≡ i = cc in record { below = omega arith; passed = ap f (sym same) ∙ e; later = λ l a b p. (let u = a in let w = b in let s : n ≡ i = same in omega arith) }
    go false e k more =
        let m : IsLatest f n i = more k in
        record { below = (let l = m.below in omega arith); passed = m.passed; later = λ l a b p. at l a b p (cases_eq l n) }
      where
        at : (l : ℕ) → i < l → l < suc n → f l ≡ true → (l ≡ n) ⊎ (l ≡ n → ⊥) → ⊥
        at l a b p (inl same) = true≢false (sym p ∙ ap f same ∙ e)
        at l a b p (inr other) = let m : IsLatest f n i = more k in m.later l a (let differ : l ≢ n = other in omega arith) p

latest_from : (f : ℕ → Bool) (n i : ℕ) → IsLatest f n i → latest f n ≡ Some i
latest_from f zero i m = absurd (let l = m.below in omega arith)
latest_from f (suc n) i m = go (f n) refl (cases_eq i n) (λ k. latest_from f n i k)
  where
    go : (b : Bool) → f n ≡ b → (i ≡ n) ⊎ (i ≡ n → ⊥) → (IsLatest f n i → latest f n ≡ Some i) → (if b then Some n else latest f n) ≡ Some i
    go true e (inl same) more = ap Some (sym same)
    go true e (inr other) more = absurd (m.later n (let l = m.below in let differ : i ≢ n = other in omega arith) (omega arith) e)
    go false e (inl same) more = absurd (true≢false (sym m.passed ∙ ap f same ∙ e))
    go false e (inr other) more = more (record { below = (let l = m.below in let differ : i ≢ n = other in omega arith); passed = m.passed; later = λ k a b p. m.later k a (omega arith) p })

-- ---- one more event

module _ (h : List Event) (j : ℕ) (x : Event) (there : slice_get h j ≡ Some x) where
  passes_there : (f : Event → Bool) → event_passes f (slice_get h j) ≡ f x
  passes_there f = ap (event_passes f) there

  index_more : (mark : Triple → EventKind) (old new : EventIndex) → IsIndexOf h j mark old → HasOneMore old (λ t. has_kind (mark t) x) j new → IsIndexOf h (suc j) mark new
  index_more mark old new has more = record {
    counts = λ t. more.counts t ∙ go t (has_kind (mark t) x) refl;
    places = λ t m. more.places t m ∙ at t m (has_kind (mark t) x) refl;
  }
    where
      go : (t : Triple) (b : Bool) → has_kind (mark t) x ≡ b → (if b then count_on old t + 1 else count_on old t) ≡ count (mark t) (take (suc j) h)
      go t true e = let a = has.counts t in let c = count_next (mark t) h j x there in let d : one_if (has_kind (mark t) x) ≡ 1 = ap one_if e in omega arith
      go t false e = let a = has.counts t in let c = count_next (mark t) h j x there in let d : one_if (has_kind (mark t) x) ≡ 0 = ap one_if e in omega arith

      at : (t : Triple) (m : ℕ) (b : Bool) → has_kind (mark t) x ≡ b → (if b then (if count_on old t == m then Some j else place_on old t m) else place_on old t m) ≡ latest (is_nth h (mark t) m) (suc j)
      at t m true e =
          ap (λ z. if z == m then Some j else place_on old t m) (has.counts t)
          ∙ ap (λ (o : Option ℕ). if count (mark t) (take j h) == m then Some j else o) (has.places t m)
          ∙ ap (λ (b : Bool). if b && (count (mark t) (take j h) == m) then Some j else latest (is_nth h (mark t) m) j) (sym (passes_there (has_kind (mark t)) ∙ e))
      at t m false e =
          has.places t m ∙ ap (λ (b : Bool). if b && (count (mark t) (take j h) == m) then Some j else latest (is_nth h (mark t) m) j) (sym (passes_there (has_kind (mark t)) ∙ e))

  pub scanned_more : (old new : Scan) → HasScanned h j old → HasAdded old x j new → HasScanned h (suc j) new
  scanned_more old new has more = record {
    last = λ p.
        more.last p
        ∙ ap (λ (b : Bool). if b then Some j else last_event_of old p) (sym (passes_there (participates p)))
        ∙ ap (λ (o : Option ℕ). if event_passes (participates p) (slice_get h j) then Some j else o) (has.last p);
    start =
        more.start
        ∙ ap (λ (b : Bool). if b then Some j else old.start) (sym (passes_there (has_kind Starts)))
        ∙ ap (λ (o : Option ℕ). if event_passes (has_kind Starts) (slice_get h j) then Some j else o) has.start;
    sends = index_more (λ t. Sends t) old.sends new.sends has.sends more.sends;
    receipts = index_more (λ t. Receives t) old.receipts new.receipts has.receipts more.receipts;
  }

-- ---- lists of what is found

listed_append : (i : ℕ) (xs ys : List ℕ) → IsListed i (xs ++ ys) → IsListed i xs ⊎ IsListed i ys
listed_append i [] ys l = inr l
listed_append i (x ∷ xs) ys (inl e) = inl (inl e)
listed_append i (x ∷ xs) ys (inr l) = go (listed_append i xs ys l)
  where
    go : IsListed i xs ⊎ IsListed i ys → IsListed i (x ∷ xs) ⊎ IsListed i ys
    go (inl a) = inl (inr a)
    go (inr b) = inr b

listed_left : (i : ℕ) (xs ys : List ℕ) → IsListed i xs → IsListed i (xs ++ ys)
listed_left i [] ys l = absurd l
listed_left i (x ∷ xs) ys (inl e) = inl e
listed_left i (x ∷ xs) ys (inr l) = inr (listed_left i xs ys l)

listed_right : (i : ℕ) (xs ys : List ℕ) → IsListed i ys → IsListed i (xs ++ ys)
listed_right i [] ys l = l
listed_right i (x ∷ xs) ys l = inr (listed_right i xs ys l)

listed_option : (i : ℕ) (o : Option ℕ) → IsListed i (option_to_list o) → o ≡ Some i
listed_option i None l = absurd l
listed_option i (Some x) (inl e) = ap Some (sym e)
listed_option i (Some x) (inr l) = absurd l

option_listed : (i : ℕ) (o : Option ℕ) → o ≡ Some i → IsListed i (option_to_list o)
option_listed i o e = subst (λ (z : Option ℕ). IsListed i (option_to_list z)) (sym e) (inl refl)

abbrev ALast : Scan → List ℕ → ℕ → Type 0
ALast s ps i = (p : ℕ) × (is_in p ps ≡ true) × (last_event_of s p ≡ Some i)

last_events_listed : (s : Scan) (ps : List ℕ) (i : ℕ) → IsListed i (last_events s ps) → ALast s ps i
last_events_listed s [] i l = absurd l
last_events_listed s (p ∷ ps) i l = go (listed_append i (option_to_list (last_event_of s p)) (last_events s ps) l) (λ m. last_events_listed s ps i m)
  where
    go : IsListed i (option_to_list (last_event_of s p)) ⊎ IsListed i (last_events s ps) → (IsListed i (last_events s ps) → ALast s ps i) → ALast s (p ∷ ps) i
    go (inl a) more = (p, or_left (p == p) (is_in p ps) (eq-eqb p p refl), listed_option i (last_event_of s p) a)
    go (inr b) more = let m = more b in (m.0, or_right (m.0 == p) (is_in m.0 ps) m.1, m.2)

listed_last_events : (s : Scan) (ps : List ℕ) (i p : ℕ) → is_in p ps ≡ true → last_event_of s p ≡ Some i → IsListed i (last_events s ps)
listed_last_events s [] i p h e = absurd (true≢false (sym h))
listed_last_events s (q ∷ ps) i p h e = go (or_cases (p == q) (is_in p ps) h) (λ m. listed_last_events s ps i p m e)
  where
    go : ((p == q) ≡ true) ⊎ (is_in p ps ≡ true) → (is_in p ps ≡ true → IsListed i (last_events s ps)) → IsListed i (last_events s (q ∷ ps))
    go (inl same) more = listed_left i (option_to_list (last_event_of s q)) (last_events s ps) (option_listed i (last_event_of s q) (ap (last_event_of s) (sym (eqb-true p q same)) ∙ e))
    go (inr other) more = listed_right i (option_to_list (last_event_of s q)) (last_events s ps) (more other)

module _ (cap : Option ℕ) (s : Scan) where
  abbrev Found : Event → ℕ → Type 0
  Found x i = ALast s (actors_of x) i ⊎ (other_cause cap s x ≡ Some i)

  found_listed : (x : Event) (i : ℕ) → IsListed i (causes_found cap s x) → Found x i
  found_listed x i l = go (listed_append i (last_events s (actors_of x)) (option_to_list (other_cause cap s x)) l)
    where
      go : IsListed i (last_events s (actors_of x)) ⊎ IsListed i (option_to_list (other_cause cap s x)) → Found x i
      go (inl a) = inl (last_events_listed s (actors_of x) i a)
      go (inr b) = inr (listed_option i (other_cause cap s x) b)

  last_found : (x : Event) (i p : ℕ) → participates p x ≡ true → last_event_of s p ≡ Some i → IsListed i (causes_found cap s x)
  last_found x i p h e = listed_left i (last_events s (actors_of x)) (option_to_list (other_cause cap s x)) (listed_last_events s (actors_of x) i p h e)

  other_found : (x : Event) (i : ℕ) → other_cause cap s x ≡ Some i → IsListed i (causes_found cap s x)
  other_found x i e = listed_right i (last_events s (actors_of x)) (option_to_list (other_cause cap s x)) (option_listed i (other_cause cap s x) e)

-- ---- what is found are the causes

module _ (h : List Event) (cap : Option ℕ) (less : (i j : ℕ) → IsDirectlyBefore h cap i j → i < j) (j : ℕ) (x : Event) (there : slice_get h j ≡ Some x) (s : Scan) (has : HasScanned h j s) where
  passed_event : (f : Event → Bool) (i : ℕ) → event_passes f (slice_get h i) ≡ true → (y : Event) × (slice_get h i ≡ Some y) × (f y ≡ true)
  passed_event f i p = go (slice_get h i) refl p
    where
      go : (o : Option Event) → slice_get h i ≡ o → event_passes f o ≡ true → (y : Event) × (slice_get h i ≡ Some y) × (f y ≡ true)
      go None e q = absurd (true≢false (sym q))
      go (Some y) e q = (y, e, q)

  it_passes : (f : Event → Bool) (i : ℕ) (y : Event) → slice_get h i ≡ Some y → f y ≡ true → event_passes f (slice_get h i) ≡ true
  it_passes f i y e p = ap (event_passes f) e ∙ p

  same_x : (y : Event) → slice_get h j ≡ Some y → y ≡ x
  same_x y e = let k : Some y ≡ Some x = sym e ∙ there in cc

  -- the event of a kind with a number
  nth_of : (k : EventKind) (n i : ℕ) → latest (is_nth h k n) j ≡ Some i → IsNth h k i n
  nth_of k n i e =
      let l : IsLatest (is_nth h k n) j i = latest_is (is_nth h k n) j i e in
      let p = and_parts (event_passes (has_kind k) (slice_get h i)) (count k (take i h) == n) l.passed in
      let y = passed_event (has_kind k) i p.0 in
      record { event = y.0; there = y.1; of_kind = y.2; number = eqb-true (count k (take i h)) n p.1 }

  of_nth : (k : EventKind) (n i : ℕ) → IsNth h k i n → i < j → latest (is_nth h k n) j ≡ Some i
  of_nth k n i a lt = latest_from (is_nth h k n) j i (record {
    below = lt;
    passed = and_from (event_passes (has_kind k) (slice_get h i)) (count k (take i h) == n) (it_passes (has_kind k) i a.event a.there a.of_kind) (eq-eqb (count k (take i h)) n a.number);
    later = later;
  })
    where
      later : (l : ℕ) → i < l → l < j → is_nth h k n l ≡ true → ⊥
      later l b c p =
          let q = and_parts (event_passes (has_kind k) (slice_get h l)) (count k (take l h) == n) p in
          let same : count k (take l h) ≡ n = eqb-true (count k (take l h)) n q.1 in
          let next = count_next k h i a.event a.there in
          let one : one_if (has_kind k a.event) ≡ 1 = ap one_if a.of_kind in
          let grows = count_grows k h (suc i) l b in
          let number : count k (take i h) ≡ n = a.number in
          omega arith

  at_j : (k : EventKind) → has_kind k x ≡ true → IsNth h k j (count k (take j h))
  at_j k of_kind = record { event = x; there = there; of_kind = of_kind; number = refl }

  last_causes : (p i : ℕ) → participates p x ≡ true → last_event_of s p ≡ Some i → IsCause h cap i j
  last_causes p i part e =
      let l : IsLatest (λ i. event_passes (participates p) (slice_get h i)) j i = latest_is (λ i. event_passes (participates p) (slice_get h i)) j i (sym (has.last p) ∙ e) in
      let y = passed_event (participates p) i l.passed in
      last_cause p l.below (record { event = y.0; there = y.1; part = y.2 }) (record { event = x; there = there; part = part }) (λ k a b q. l.later k a b (it_passes (participates p) k q.event q.there q.part))

  start_causes : (i : ℕ) → has_kind Starts x ≡ true → s.start ≡ Some i → IsCause h cap i j
  start_causes i of_kind e =
      let l : IsLatest (λ i. event_passes (has_kind Starts) (slice_get h i)) j i = latest_is (λ i. event_passes (has_kind Starts) (slice_get h i)) j i (sym has.start ∙ e) in
      let y = passed_event (has_kind Starts) i l.passed in
      let number : count Starts (take j h) ≡ count Starts (take i h) + 1 = next_start h cap i j l.below y.0 y.1 y.2 x there (λ k a b q. l.later k a b (it_passes (has_kind Starts) k q.0 q.1 q.2)) in
      previous_start (count Starts (take i h)) (record { event = y.0; there = y.1; of_kind = y.2; number = refl }) (record { event = x; there = there; of_kind = of_kind; number = number })

  send_causes : (t : Triple) (i : ℕ) → has_kind (Receives t) x ≡ true → send_of_next s t ≡ Some i → IsCause h cap i j
  send_causes t i of_kind e =
      let n : count_on s.receipts t ≡ count (Receives t) (take j h) = has.receipts.counts t in
      let f : latest (is_nth h (Sends t) (count (Receives t) (take j h))) j ≡ Some i = sym (has.sends.places t (count (Receives t) (take j h))) ∙ ap (place_on s.sends t) (sym n) ∙ e in
      its_send t (count (Receives t) (take j h)) (nth_of (Sends t) (count (Receives t) (take j h)) i f) (at_j (Receives t) of_kind)

  room_causes : (t : Triple) (i : ℕ) → has_kind (Sends t) x ≡ true → room_of_next cap s t ≡ Some i → IsCause h cap i j
  room_causes t i of_kind e = go cap refl e
    where
      n : count_on s.sends t ≡ count (Sends t) (take j h)
      n = has.sends.counts t

      go : (o : Option ℕ) → cap ≡ o → room_of_next o s t ≡ Some i → IsCause h cap i j
      go None k g = absurd cc
      go (Some c) k g = at (cases_lt (count_on s.sends t) c) (nat_lt (count_on s.sends t) c) refl g
        where
          at : (count_on s.sends t < c) ⊎ (c ≤ count_on s.sends t) → (b : Bool) → nat_lt (count_on s.sends t) c ≡ b → (if b then None else place_on s.receipts t (count_on s.sends t - c)) ≡ Some i → IsCause h cap i j
          at w true u g = absurd cc
          at (inl lt) false u g = absurd (true≢false (sym (lt-ltb (count_on s.sends t) c lt) ∙ u))
          at (inr le) false u g =
              let f : latest (is_nth h (Receives t) (count_on s.sends t - c)) j ≡ Some i = sym (has.receipts.places t (count_on s.sends t - c)) ∙ g in
              let number : count (Sends t) (take j h) ≡ (count_on s.sends t - c) + c = (let m = n in omega arith) in
              its_room t (count_on s.sends t - c) c k (nth_of (Receives t) (count_on s.sends t - c) i f) (record { event = x; there = there; of_kind = of_kind; number = number })

  other_causes : (y : Event) → y ≡ x → (i : ℕ) → other_cause cap s y ≡ Some i → IsCause h cap i j
  other_causes (event.Start c sid parts) is i e = start_causes i (ap (has_kind Starts) (sym is)) e
  other_causes (event.Send p sid a b l) is i e = room_causes (sid, a, b) i (ap (has_kind (Sends (sid, a, b))) (sym is) ∙ triple_same (sid, a, b)) e
  other_causes (event.Recv p sid a b l) is i e = send_causes (sid, a, b) i (ap (has_kind (Receives (sid, a, b))) (sym is) ∙ triple_same (sid, a, b)) e
  other_causes (event.Test p b) is i e = absurd cc
  other_causes (event.Set p z v) is i e = absurd cc
  other_causes (event.Show p v) is i e = absurd cc
  other_causes (event.Host p z f a b v) is i e = absurd cc

  pub found_is_cause : (i : ℕ) → IsListed i (causes_found cap s x) → IsCause h cap i j
  found_is_cause i l = go (found_listed cap s x i l)
    where
      go : ALast s (actors_of x) i ⊎ (other_cause cap s x ≡ Some i) → IsCause h cap i j
      go (inl a) = last_causes a.0 i a.1 a.2
      go (inr e) = other_causes x refl i e

  -- ---- and all causes are found

  send_is : (y : Event) → y ≡ x → (t : Triple) → has_kind (Receives t) y ≡ true → other_cause cap s y ≡ send_of_next s t
  send_is (event.Recv p sid a b l) is t m = ap (send_of_next s) (sym (same_triple t (sid, a, b) m))
  send_is (event.Send p sid a b l) is t m = absurd (true≢false (sym m))
  send_is (event.Start c sid parts) is t m = absurd (true≢false (sym m))
  send_is (event.Test p b) is t m = absurd (true≢false (sym m))
  send_is (event.Set p z v) is t m = absurd (true≢false (sym m))
  send_is (event.Show p v) is t m = absurd (true≢false (sym m))
  send_is (event.Host p z f a b v) is t m = absurd (true≢false (sym m))

  room_is : (y : Event) → y ≡ x → (t : Triple) → has_kind (Sends t) y ≡ true → other_cause cap s y ≡ room_of_next cap s t
  room_is (event.Send p sid a b l) is t m = ap (room_of_next cap s) (sym (same_triple t (sid, a, b) m))
  room_is (event.Recv p sid a b l) is t m = absurd (true≢false (sym m))
  room_is (event.Start c sid parts) is t m = absurd (true≢false (sym m))
  room_is (event.Test p b) is t m = absurd (true≢false (sym m))
  room_is (event.Set p z v) is t m = absurd (true≢false (sym m))
  room_is (event.Show p v) is t m = absurd (true≢false (sym m))
  room_is (event.Host p z f a b v) is t m = absurd (true≢false (sym m))

  start_is : (y : Event) → y ≡ x → has_kind Starts y ≡ true → other_cause cap s y ≡ s.start
  start_is (event.Start c sid parts) is m = refl
  start_is (event.Send p sid a b l) is m = absurd (true≢false (sym m))
  start_is (event.Recv p sid a b l) is m = absurd (true≢false (sym m))
  start_is (event.Test p b) is m = absurd (true≢false (sym m))
  start_is (event.Set p z v) is m = absurd (true≢false (sym m))
  start_is (event.Show p v) is m = absurd (true≢false (sym m))
  start_is (event.Host p z f a b v) is m = absurd (true≢false (sym m))

  pub cause_is_found : (i : ℕ) → IsCause h cap i j → IsListed i (causes_found cap s x)
  cause_is_found i (last_cause p lt a b none) =
      let part : participates p x ≡ true = subst (λ (z : Event). participates p z ≡ true) (same_x b.event b.there) b.part in
      let e : latest (λ i. event_passes (participates p) (slice_get h i)) j ≡ Some i = latest_from (λ i. event_passes (participates p) (slice_get h i)) j i (record {
        below = lt;
        passed = it_passes (participates p) i a.event a.there a.part;
        later = λ k u w q. (let y = passed_event (participates p) k q in none k u w (record { event = y.0; there = y.1; part = y.2 }));
      }) in
      last_found cap s x i p part (has.last p ∙ e)
  cause_is_found i (previous_start n a b) =
      let lt : i < j = start_less h cap i j n a b in
      let of_kind : has_kind Starts x ≡ true = ap (has_kind Starts) (sym (same_x b.event b.there)) ∙ b.of_kind in
      let e : latest (λ i. event_passes (has_kind Starts) (slice_get h i)) j ≡ Some i = latest_from (λ i. event_passes (has_kind Starts) (slice_get h i)) j i (record {
        below = lt;
        passed = it_passes (has_kind Starts) i a.event a.there a.of_kind;
        later = λ k u w q.
            let y = passed_event (has_kind Starts) k q in
            let c1 = count_next Starts h i a.event a.there in
            let o1 : one_if (has_kind Starts a.event) ≡ 1 = ap one_if a.of_kind in
            let c2 = count_next Starts h k y.0 y.1 in
            let o2 : one_if (has_kind Starts y.0) ≡ 1 = ap one_if y.2 in
            let g1 = count_grows Starts h (suc i) k u in
            let g2 = count_grows Starts h (suc k) j w in
            let n1 = a.number in
            let n2 = b.number in
            omega arith;
      }) in
      other_found cap s x i (start_is x refl of_kind ∙ has.start ∙ e)
  cause_is_found i (its_send t n a b) =
      let lt : i < j = less i j (cause_directly h cap i j (its_send t n a b)) in
      let of_kind : has_kind (Receives t) x ≡ true = ap (has_kind (Receives t)) (sym (same_x b.event b.there)) ∙ b.of_kind in
      let number : count_on s.receipts t ≡ n = has.receipts.counts t ∙ b.number in
      other_found cap s x i (send_is x refl t of_kind ∙ ap (place_on s.sends t) number ∙ has.sends.places t n ∙ of_nth (Sends t) n i a lt)
  cause_is_found i (its_room t n c k a b) =
      let lt : i < j = less i j (cause_directly h cap i j (its_room t n c k a b)) in
      let of_kind : has_kind (Sends t) x ≡ true = ap (has_kind (Sends t)) (sym (same_x b.event b.there)) ∙ b.of_kind in
      let number : count_on s.sends t ≡ n + c = has.sends.counts t ∙ b.number in
      let enough : nat_lt (count_on s.sends t) c ≡ false = le-ltb (count_on s.sends t) c (omega arith) in
      let rest : count_on s.sends t - c ≡ n = omega arith in
      other_found cap s x i
      (room_is x refl t of_kind ∙ ap (λ (z : Option ℕ). room_of_next z s t) k ∙ ap (λ (z : Bool). if z then None else place_on s.receipts t (count_on s.sends t - c)) enough ∙ ap (place_on s.receipts t) rest ∙ has.receipts.places t n ∙ of_nth (Receives t) n i a lt)
