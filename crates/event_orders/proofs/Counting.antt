-- How many events of a run are of a kind, and how long its queues are.
use Rattle.std.proofs.Common.{◌≡◌, ℕ, zero, suc, ◌<◌, ◌≤◌, ◌+◌, ◌-◌, Bool, true, false, nat_lt, List, [], ◌∷◌, ◌++◌, length, take, refl, sym, ap, ◌∙◌, subst, Option, Some, None, arith, length-append, if◌then◌else◌}
use Rattle.std.specs.Prelude.{slice_get}
use Rattle.std.proofs.lemmas.Bool.{ltb-true, true≢false}
use Rattle.chor_base.specs.declared.event.Event.{Event}
use Rattle.chor_base.specs.declared.event.Event.TheVariants as event
use Rattle.chor_base.specs.Events.{Triple, triple_eq}
use Rattle.chor_base.specs.Meaning.{Hosts}
use Rattle.endpoint_code.specs.declared.endpoints.Endpoints.{Endpoints}
use Rattle.endpoint_code.specs.Network.{NetworkState, queue_of, has_room, NetworkSteps, first_state}
use Rattle.endpoint_code.specs.NetworkRuns.{NetworkLeads, IsNetworkRun}
use Rattle.endpoint_code.proofs.OneNext.{next_one}
use Rattle.endpoint_code.proofs.Fifo.{same_triple}
use Rattle.event_orders.specs.EventKinds.{EventKind, Sends, Receives, Starts, has_kind, one_if, count}
use Rattle.event_orders.proofs.Effects.{rest_of, changed, Fits}
use Rattle.event_orders.proofs.StepEffects.{StepEffect, step_effect}
use Rattle.event_orders.specs.Orders.{IsPermutationBelow, with_event, permuted}

-- ---- counts

pub count-append : (k : EventKind) (xs ys : List Event) → count k (xs ++ ys) ≡ count k xs + count k ys
count-append k [] ys = omega arith
count-append k (x ∷ xs) ys = let more = count-append k xs ys in omega arith

pub take_next : (h : List Event) (i : ℕ) (x : Event) → slice_get h i ≡ Some x → take (suc i) h ≡ take i h ++ x ∷ []
take_next [] i x e = absurd cc
take_next (y ∷ h) zero x e = let same : y ≡ x = cc in ap (λ z. z ∷ []) same
take_next (y ∷ h) (suc i) x e = ap (λ z. y ∷ z) (take_next h i x e)

pub take_more_of : (h : List Event) (i d : ℕ) → (rest : List Event) × (take (i + d) h ≡ take i h ++ rest)
take_more_of h zero d = (take d h, ap (λ z. take z h) (let e : 0 + d ≡ d = omega arith in e))
take_more_of [] (suc i) d = ([], let e : suc i + d ≡ suc (i + d) = omega arith in ap (λ z. take z ([])) e)
take_more_of (x ∷ h) (suc i) d =
    let e : suc i + d ≡ suc (i + d) = omega arith in
    let r = take_more_of h i d in
    (r.0, ap (λ z. take z (x ∷ h)) e ∙ ap (λ z. x ∷ z) r.1)

pub count_grows : (k : EventKind) (h : List Event) (i j : ℕ) → i ≤ j → count k (take i h) ≤ count k (take j h)
count_grows k h i j le =
    let e : i + (j - i) ≡ j = omega arith in
    let r = take_more_of h i (j - i) in
    let s : take j h ≡ take i h ++ r.0 = ap (λ z. take z h) (sym e) ∙ r.1 in
    let c : count k (take j h) ≡ count k (take i h) + count k r.0 = ap (count k) s ∙ count-append k (take i h) r.0 in
    omega arith

-- ---- runs in parts

module _ (e : Endpoints) (hosts : Hosts) (cap : Option ℕ) where
  pub leads_cut : (xs ys : List Event) (n m : NetworkState) → NetworkLeads e hosts cap n (xs ++ ys) m → (mid : NetworkState) × NetworkLeads e hosts cap n xs mid × NetworkLeads e hosts cap mid ys m
  leads_cut [] ys n m l = (n, refl, l)
  leads_cut (x ∷ xs) ys n m l = let r = leads_cut xs ys l.0 m l.2 in (r.0, (l.0, l.1, r.1), r.2)

  pub leads_on : (xs ys : List Event) (n m k : NetworkState) → NetworkLeads e hosts cap n xs m → NetworkLeads e hosts cap m ys k → NetworkLeads e hosts cap n (xs ++ ys) k
  leads_on [] ys n m k l r = subst (λ (z : NetworkState). NetworkLeads e hosts cap z ys k) (sym l) r
  leads_on (x ∷ xs) ys n m k l r = (l.0, l.1, leads_on xs ys l.0 m k l.2 r)

  pub leads_one : (xs : List Event) (n m k : NetworkState) → NetworkLeads e hosts cap n xs m → NetworkLeads e hosts cap n xs k → m ≡ k
  leads_one [] n m k l r = sym l ∙ r
  leads_one (x ∷ xs) n m k l r =
      let same : r.0 ≡ l.0 = next_one e hosts cap n r.0 l.0 x r.1 l.1 in
      leads_one xs l.0 m k l.2 (subst (λ (z : NetworkState). NetworkLeads e hosts cap z xs k) same r.2)

  pub one_step : (x : Event) (n m : NetworkState) → NetworkLeads e hosts cap n (x ∷ []) m → NetworkSteps e hosts cap n x m
  one_step x n m l = subst (λ (z : NetworkState). NetworkSteps e hosts cap n x z) l.2 l.1

-- ---- queues

shorter : (t : Triple) (x : Event) (cap : Option ℕ) (n : NetworkState) → Fits cap n x → length (changed x t (queue_of n t)) + one_if (has_kind (Receives t) x) ≡ length (queue_of n t) + one_if (has_kind (Sends t) x)
shorter t (event.Send p s a b l) cap n fits = go (triple_eq t (s, a, b))
  where
    go : (z : Bool) → length (if z then queue_of n t ++ l ∷ [] else queue_of n t) + 0 ≡ length (queue_of n t) + one_if z
    go true = omega (arith, length-append (queue_of n t) (l ∷ []))
    go false = omega arith
shorter t (event.Recv p s a b l) cap n fits = go (triple_eq t (s, a, b)) refl
  where
    go : (z : Bool) → triple_eq t (s, a, b) ≡ z → length (if z then rest_of (queue_of n t) else queue_of n t) + one_if z ≡ length (queue_of n t) + 0
    go true i =
        let is : t ≡ (s, a, b) = same_triple t (s, a, b) i in
        let q : queue_of n t ≡ l ∷ fits.0 = ap (queue_of n) is ∙ fits.1 in
        let c : length (rest_of (queue_of n t)) ≡ length fits.0 = ap (λ z. length (rest_of z)) q in
        let d : length (queue_of n t) ≡ suc (length fits.0) = ap length q in
        omega arith
    go false i = omega arith
shorter t _ cap n fits = omega arith

pub received_long : (cap : Option ℕ) (n : NetworkState) (x : Event) (t : Triple) → Fits cap n x → has_kind (Receives t) x ≡ true → 0 < length (queue_of n t)
received_long cap n (event.Recv p s a b l) t h i =
    let is : t ≡ (s, a, b) = same_triple t (s, a, b) i in
    let d : length (queue_of n t) ≡ suc (length h.0) = ap length (ap (queue_of n) is ∙ h.1) in
    omega arith
received_long cap n (event.Send p s a b l) t h i = absurd (true≢false (sym i))
received_long cap n (event.Start c s ps) t h i = absurd (true≢false (sym i))
received_long cap n (event.Test p b) t h i = absurd (true≢false (sym i))
received_long cap n (event.Set p z v) t h i = absurd (true≢false (sym i))
received_long cap n (event.Show p v) t h i = absurd (true≢false (sym i))
received_long cap n (event.Host p z f a b v) t h i = absurd (true≢false (sym i))

pub sent_short : (cap : Option ℕ) (n : NetworkState) (x : Event) (t : Triple) (c : ℕ) → cap ≡ Some c → Fits cap n x → has_kind (Sends t) x ≡ true → length (queue_of n t) < c
sent_short cap n (event.Send p s a b l) t c k h i =
    let is : t ≡ (s, a, b) = same_triple t (s, a, b) i in
    let room : nat_lt (length (queue_of n t)) c ≡ true = ap (λ (z : Option ℕ). has_room z (queue_of n t)) (sym k) ∙ ap (λ (z : Triple). has_room cap (queue_of n z)) is ∙ h in
    ltb-true (length (queue_of n t)) c room
sent_short cap n (event.Recv p s a b l) t c k h i = absurd (true≢false (sym i))
sent_short cap n (event.Start d s ps) t c k h i = absurd (true≢false (sym i))
sent_short cap n (event.Test p b) t c k h i = absurd (true≢false (sym i))
sent_short cap n (event.Set p z v) t c k h i = absurd (true≢false (sym i))
sent_short cap n (event.Show p v) t c k h i = absurd (true≢false (sym i))
sent_short cap n (event.Host p z f a b v) t c k h i = absurd (true≢false (sym i))

module _ (e : Endpoints) (hosts : Hosts) (cap : Option ℕ) where
  step_length : (n : NetworkState) (x : Event) (m : NetworkState) (t : Triple) → NetworkSteps e hosts cap n x m → length (queue_of m t) + one_if (has_kind (Receives t) x) ≡ length (queue_of n t) + one_if (has_kind (Sends t) x)
  step_length n x m t step =
      let s : StepEffect e hosts cap n x m = step_effect e hosts cap n x m step in
      ap (λ z. length z + one_if (has_kind (Receives t) x)) (s.queues t) ∙ shorter t x cap n s.fits

  leads_length : (t : Triple) (xs : List Event) (n m : NetworkState) → NetworkLeads e hosts cap n xs m → length (queue_of m t) + count (Receives t) xs ≡ length (queue_of n t) + count (Sends t) xs
  leads_length t [] n m l = ap (λ (z : NetworkState). length (queue_of z t) + 0) (sym l)
  leads_length t (x ∷ xs) n m l =
      let a = step_length n x l.0 t l.1 in
      let b = leads_length t xs l.0 m l.2 in
      omega arith

  pub leads_sid : (xs : List Event) (n m : NetworkState) → NetworkLeads e hosts cap n xs m → m.sid ≡ n.sid + count Starts xs
  leads_sid [] n m l = let a : n.sid ≡ m.sid = ap (λ (z : NetworkState). z.sid) l in omega arith
  leads_sid (x ∷ xs) n m l =
      let s : StepEffect e hosts cap n x l.0 = step_effect e hosts cap n x l.0 l.1 in
      let a = s.sid in
      let b = leads_sid xs l.0 m l.2 in
      omega arith

  -- a queue has what was sent and not received
  pub run_length : (t : Triple) (xs : List Event) (m : NetworkState) → IsNetworkRun e hosts cap xs m → length (queue_of m t) + count (Receives t) xs ≡ count (Sends t) xs
  run_length t xs m l = let a = leads_length t xs (first_state e) m l in omega arith

-- ---- permuted events

pub permuted-append : (h : List Event) (a b : List ℕ) → permuted h (a ++ b) ≡ permuted h a ++ permuted h b
permuted-append h [] b = refl
permuted-append h (i ∷ a) b = go (slice_get h i) (permuted-append h a b)
  where
    go : (o : Option Event) → permuted h (a ++ b) ≡ permuted h a ++ permuted h b → with_event o (permuted h (a ++ b)) ≡ with_event o (permuted h a) ++ permuted h b
    go None more = more
    go (Some x) more = ap (λ z. x ∷ z) more

pub permuted_at : (h : List Event) (i : ℕ) (b : List ℕ) (x : Event) → slice_get h i ≡ Some x → permuted h (i ∷ b) ≡ x ∷ permuted h b
permuted_at h i b x e = ap (λ (o : Option Event). with_event o (permuted h b)) e

pub count_permuted : (k : EventKind) (h : List Event) (a b : List ℕ) → count k (permuted h (a ++ b)) ≡ count k (permuted h a) + count k (permuted h b)
count_permuted k h a b = ap (count k) (permuted-append h a b) ∙ count-append k (permuted h a) (permuted h b)

pub count_cut : (k : EventKind) (h : List Event) (order a b : List ℕ) → order ≡ a ++ b → count k (permuted h order) ≡ count k (permuted h a) + count k (permuted h b)
count_cut k h order a b is = ap (λ z. count k (permuted h z)) is ∙ count_permuted k h a b

pub count_at : (k : EventKind) (h : List Event) (i : ℕ) (b : List ℕ) (x : Event) → slice_get h i ≡ Some x → count k (permuted h (i ∷ b)) ≡ one_if (has_kind k x) + count k (permuted h b)
count_at k h i b x e = ap (count k) (permuted_at h i b x e)

pub count_next : (k : EventKind) (h : List Event) (i : ℕ) (x : Event) → slice_get h i ≡ Some x → count k (take (suc i) h) ≡ count k (take i h) + one_if (has_kind k x)
count_next k h i x e = let a : count k (take (suc i) h) ≡ count k (take i h) + count k (x ∷ []) = ap (count k) (take_next h i x e) ∙ count-append k (take i h) (x ∷ []) in omega arith

pub event_at : (h : List Event) (i : ℕ) → i < length h → (x : Event) × (slice_get h i ≡ Some x)
event_at [] i lt = absurd (omega arith)
event_at (y ∷ h) zero lt = (y, refl)
event_at (y ∷ h) (suc i) lt = event_at h i (omega arith)

-- a permutation has the same events
pub order_count : (k : EventKind) (h : List Event) (n : ℕ) (o : List ℕ) → IsPermutationBelow n o → n ≤ length h → count k (permuted h o) ≡ count k (take n h)
order_count k h zero o order le = ap (λ z. count k (permuted h z)) order
order_count k h (suc n) o order le =
    let x = event_at h n le in
    let a : count k (permuted h o) ≡ count k (permuted h order.0) + count k (permuted h (n ∷ order.1)) = count_cut k h _ order.0 (n ∷ order.1) order.2 in
    let b = count_at k h n order.1 x.0 x.1 in
    let c = count_permuted k h order.0 order.1 in
    let d = order_count k h n (order.0 ++ order.1) order.3 (omega arith) in
    let f = count_next k h n x.0 x.1 in
    omega arith
