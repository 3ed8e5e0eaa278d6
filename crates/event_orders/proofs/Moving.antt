-- The last event of a run is moved before events that it is independent of.
use Rattle.std.proofs.Common.{◌≡◌, ◌≢◌, ℕ, ◌<◌, ◌+◌, true, false, List, [], ◌∷◌, ◌++◌, length, refl, sym, ap, ◌∙◌, subst, Option, Some, arith, append_assoc, append-nil}
use Rattle.std.specs.Prelude.{slice_get}
use Rattle.std.proofs.lemmas.Bool.{true≢false, false_from_ne_true}
use Rattle.chor_base.specs.declared.event.Event.{Event}
use Rattle.chor_base.specs.declared.event.Event.TheVariants as event
use Rattle.chor_base.specs.Events.{Triple}
use Rattle.chor_base.specs.Meaning.{Hosts}
use Rattle.endpoint_code.specs.declared.endpoints.Endpoints.{Endpoints}
use Rattle.endpoint_code.specs.Network.{NetworkState, queue_of, NetworkSteps, first_state}
use Rattle.endpoint_code.specs.NetworkRuns.{NetworkLeads, IsNetworkRun}
use Rattle.endpoint_code.specs.SameState.{IsSameState}
use Rattle.event_orders.specs.EventKinds.{EventKind, Sends, Receives, Starts, has_kind, one_if, count, ShareNoProcess}
use Rattle.event_orders.specs.Holders.{KeepsRolesExclusive}
use Rattle.event_orders.specs.Commute.{AreIndependent, Commute, LeadsToSame}
use Rattle.event_orders.proofs.StepEffects.{StepEffect, step_effect}
use Rattle.event_orders.proofs.Commuting.{same_leads, one_user, commute}
use Rattle.event_orders.specs.Orders.{permuted}
use Rattle.event_orders.proofs.Counting.{count-append, count_permuted, count_at, permuted-append, permuted_at, leads_on, run_length, sent_short}

-- no event is both a send and a receipt
pub not_both : (x : Event) (t u : Triple) → has_kind (Sends t) x ≡ true → has_kind (Receives u) x ≡ false
not_both (event.Send p s a b l) t u h = refl
not_both (event.Recv p s a b l) t u h = absurd (true≢false (sym h))
not_both (event.Start d s ps) t u h = refl
not_both (event.Test p b) t u h = refl
not_both (event.Set p z v) t u h = refl
not_both (event.Show p v) t u h = refl
not_both (event.Host p z f a b v) t u h = refl

pub not_both_so : (x : Event) (t u : Triple) → has_kind (Receives u) x ≡ true → has_kind (Sends t) x ≡ false
not_both_so x t u h = false_from_ne_true (has_kind (Sends t) x) (λ i. true≢false (sym h ∙ not_both x t u i))

pub same_trans : (n m k : NetworkState) → IsSameState n m → IsSameState m k → IsSameState n k
same_trans n m k a b = record { machines = a.machines ∙ b.machines; queues = λ t. a.queues t ∙ b.queues t; sid = a.sid ∙ b.sid }

-- event w, with number y, comes before x here, and isn't directly before it
pub record IsPassed (cap : Option ℕ) (h : List Event) (front back : List ℕ) (w x : Event) : Type 0 where
  pub apart : ShareNoProcess w x
  pub starts : has_kind Starts w ≡ true → has_kind Starts x ≡ true → ⊥
  pub load : (t : Triple) → has_kind (Sends t) w ≡ true → has_kind (Receives t) x ≡ true → count (Sends t) (permuted h front) ≡ count (Receives t) (permuted h (front ++ back)) → ⊥
  pub room : (t : Triple) (c : ℕ) → cap ≡ Some c → has_kind (Receives t) w ≡ true → has_kind (Sends t) x ≡ true → count (Sends t) (permuted h (front ++ back)) ≡ count (Receives t) (permuted h front) + c → ⊥

-- none of the events in back, which follow those in front, is directly before x
abbrev pub ArePassed : Option ℕ → List Event → List ℕ → List ℕ → Event → Type 0
ArePassed cap h front back x = (a : List ℕ) (y : ℕ) (b : List ℕ) → back ≡ a ++ y ∷ b → (w : Event) × (slice_get h y ≡ Some w) × IsPassed cap h (front ++ a) (y ∷ b) w x

module _ (e : Endpoints) (hosts : Hosts) (cap : Option ℕ) (h : List Event) (exclusive : KeepsRolesExclusive e hosts cap) (x : Event) where
  pub record Moved (n : NetworkState) (back : List ℕ) (last : NetworkState) : Type 0 where
    pub mid : NetworkState
    pub state : NetworkState
    pub first : NetworkSteps e hosts cap n x mid
    pub rest : NetworkLeads e hosts cap mid (permuted h back) state
    pub same : IsSameState last state
    pub none : (k : EventKind) → has_kind k x ≡ true → count k (permuted h back) ≡ 0

  passed_next : (front : List ℕ) (y : ℕ) (back : List ℕ) → ArePassed cap h front (y ∷ back) x → ArePassed cap h (front ++ y ∷ []) back x
  passed_next front y back passed a z b i =
      let p = passed (y ∷ a) z b (ap (λ u. y ∷ u) i) in
      (p.0, p.1, subst (λ (u : List ℕ). IsPassed cap h u (z ∷ b) p.0 x) (sym (append_assoc front (y ∷ []) a)) p.2)

  module _ (front : List ℕ) (y : ℕ) (back : List ℕ) (w : Event) (there : slice_get h y ≡ Some w) (passed : IsPassed cap h front (y ∷ back) w x) (n n1 : NetworkState) (run : IsNetworkRun e hosts cap (permuted h front) n) (step : NetworkSteps e hosts cap n w n1) (last : NetworkState) (moved : Moved n1 back last) where
    total : (k : EventKind) → count k (permuted h (front ++ y ∷ back)) ≡ count k (permuted h front) + (one_if (has_kind k w) + count k (permuted h back))
    total k = count_permuted k h front (y ∷ back) ∙ ap (λ z. count k (permuted h front) + z) (count_at k h y back w there)

    long : (t : Triple) → length (queue_of n t) + count (Receives t) (permuted h front) ≡ count (Sends t) (permuted h front)
    long t = run_length e hosts cap t (permuted h front) n run

    later : IsNetworkRun e hosts cap (permuted h front ++ w ∷ []) n1
    later = leads_on e hosts cap (permuted h front) (w ∷ []) (first_state e) n n1 run (n1, step, refl)

    free : AreIndependent cap n w x
    free = record {
      apart = passed.apart;
      starts = passed.starts;
      waits = λ t i j empty.
          let a = long t in
          let b : length (queue_of n t) ≡ 0 = ap length empty in
          let c = total (Receives t) in
          let d = moved.none (Receives t) j in
          let f : one_if (has_kind (Receives t) w) ≡ 0 = ap one_if (not_both w t t i) in
          passed.load t i j (omega arith);
      room = λ t c is i j.
          let s : StepEffect e hosts cap n1 x moved.mid = step_effect e hosts cap n1 x moved.mid moved.first in
          let short : length (queue_of n1 t) < c = sent_short cap n1 x t c is s.fits j in
          let after = run_length e hosts cap t (permuted h front ++ w ∷ []) n1 later in
          let r1 = count-append (Receives t) (permuted h front) (w ∷ []) in
          let s1 = count-append (Sends t) (permuted h front) (w ∷ []) in
          let a = long t in
          let f : one_if (has_kind (Receives t) w) ≡ 1 = ap one_if i in
          let g : one_if (has_kind (Sends t) w) ≡ 0 = ap one_if (not_both_so w t t i) in
          let d = moved.none (Sends t) j in
          let u = total (Sends t) in
          let differ : count (Sends t) (permuted h (front ++ y ∷ back)) ≢ count (Receives t) (permuted h front) + c = passed.room t c is i j in
          omega arith;
    }

    other : Commute e hosts cap n w x moved.mid
    other = commute e hosts cap n n1 moved.mid w x (exclusive (permuted h front) n run) free step moved.first

    alike : (k : EventKind) → has_kind k x ≡ true → has_kind k w ≡ true → ⊥
    alike Starts i j = passed.starts j i
    alike (Sends t) i j = let f : Sends t ≡ Starts = one_user e hosts cap n n1 other.mid w x (Sends t) (exclusive (permuted h front) n run) passed.apart step other.first j i in absurd cc
    alike (Receives t) i j = let f : Receives t ≡ Starts = one_user e hosts cap n n1 other.mid w x (Receives t) (exclusive (permuted h front) n run) passed.apart step other.first j i in absurd cc

    past : Moved n (y ∷ back) last
    past =
        let l : LeadsToSame e hosts cap other.last (permuted h back) moved.state = same_leads e hosts cap (permuted h back) moved.mid other.last moved.state other.same moved.rest in
        record {
          mid = other.mid;
          state = l.last;
          first = other.first;
          rest = subst (λ (z : List Event). NetworkLeads e hosts cap other.mid z l.last) (sym (permuted_at h y back w there)) (other.last, other.second, l.leads);
          same = same_trans last moved.state l.last moved.same l.same;
          none = λ k i. (let f : one_if (has_kind k w) ≡ 0 = ap one_if (false_from_ne_true (has_kind k w) (alike k i)) in let g = moved.none k i in let c = count_at k h y back w there in omega arith);
        }

  -- x, which follows those in front and in back, is moved between them
  pub move : (back front : List ℕ) → ArePassed cap h front back x → (n m last : NetworkState) → IsNetworkRun e hosts cap (permuted h front) n → NetworkLeads e hosts cap n (permuted h back) m
      → NetworkSteps e hosts cap m x last → Moved n back last
  move [] front passed n m last run leads step = record {
    mid = last;
    state = last;
    first = subst (λ (z : NetworkState). NetworkSteps e hosts cap z x last) (sym leads) step;
    rest = refl;
    same = record { machines = refl; queues = λ t. refl; sid = refl };
    none = λ k i. refl;
  }
  move (y ∷ back) front passed n m last run leads step =
      let p = passed [] y back refl in
      let is : IsPassed cap h front (y ∷ back) p.0 x = subst (λ (z : List ℕ). IsPassed cap h z (y ∷ back) p.0 x) (append-nil front) p.2 in
      let l : NetworkLeads e hosts cap n (p.0 ∷ permuted h back) m = subst (λ (z : List Event). NetworkLeads e hosts cap n z m) (permuted_at h y back p.0 p.1) leads in
      let run' : IsNetworkRun e hosts cap (permuted h (front ++ y ∷ [])) l.0 =
      subst (λ (z : List Event). IsNetworkRun e hosts cap z l.0) (sym (permuted-append h front (y ∷ []) ∙ ap (λ z. permuted h front ++ z) (permuted_at h y [] p.0 p.1)))
      (leads_on e hosts cap (permuted h front) (p.0 ∷ []) (first_state e) n l.0 run (l.0, l.1, refl)) in
      past front y back p.0 p.1 is n l.0 run l.1 last (move back (front ++ y ∷ []) (passed_next front y back passed) l.0 m last run' l.2 step)
