-- Each permutation in which an event comes after all that is directly before it is a run with the same state after it.
use Rattle.std.proofs.Common.{◌≡◌, ℕ, zero, suc, ◌<◌, ◌≤◌, ◌+◌, true, List, [], ◌∷◌, ◌++◌, length, take, refl, sym, ap, ◌∙◌, subst, Option, Some, arith, append_assoc, append-nil, inl, inr, ◌⊎◌, take_all}
use Rattle.std.specs.Prelude.{slice_get}
use Rattle.std.proofs.lemmas.Bool.{false_from_ne_true, cases_lt}
use Rattle.chor_base.specs.declared.event.Event.{Event}
use Rattle.chor_base.specs.Meaning.{Hosts}
use Rattle.endpoint_code.specs.declared.endpoints.Endpoints.{Endpoints}
use Rattle.endpoint_code.specs.Network.{NetworkState, queue_of, NetworkSteps, first_state}
use Rattle.endpoint_code.specs.NetworkRuns.{NetworkLeads, IsNetworkRun}
use Rattle.endpoint_code.specs.SameState.{IsSameState}
use Rattle.event_orders.specs.EventKinds.{EventKind, Sends, Receives, Starts, has_kind, one_if, count}
use Rattle.event_orders.specs.Holders.{KeepsRolesExclusive}
use Rattle.event_orders.proofs.StepEffects.{StepEffect, step_effect}
use Rattle.event_orders.proofs.Commuting.{StepsSame, same_steps}
use Rattle.event_orders.specs.Orders.{IsPermutationBelow, permuted}
use Rattle.event_orders.specs.HappensBefore.{IsDirectlyBefore, program_order, start_order, message_order, capacity_order, directly, IsLinearExtension}
use Rattle.event_orders.proofs.Numbers.{occurs, occurs-append, occurs_other, member_occurs, cut, order_once, order_below, before_in}
use Rattle.event_orders.proofs.Counting.{count_permuted, count_cut, count_at, count_grows, event_at, order_count, take_next, permuted-append, permuted_at, leads_cut, leads_on, one_step, run_length, received_long, sent_short}
use Rattle.event_orders.proofs.Moving.{same_trans, ArePassed, Moved, move}

-- each event comes after all that is directly before it
abbrev pub IsClosed : List Event → Option ℕ → List ℕ → Type 0
IsClosed h cap o = (a : List ℕ) (j : ℕ) (b : List ℕ) → o ≡ a ++ j ∷ b → (i : ℕ) → IsDirectlyBefore h cap i j → 0 < occurs i a

-- each of these events has as many events of its kind before it as in the run
abbrev pub ArePlaced : List Event → List ℕ → Type 0
ArePlaced h o = (a : List ℕ) (i : ℕ) (b : List ℕ) → o ≡ a ++ i ∷ b → (x : Event) → slice_get h i ≡ Some x → (k : EventKind) → has_kind k x ≡ true → count k (permuted h a) ≡ count k (take i h)

module _ (e : Endpoints) (hosts : Hosts) (cap : Option ℕ) (h : List Event) (last : NetworkState) (run : IsNetworkRun e hosts cap h last) where
  -- ---- the run up to an event

  pub record Reached (i : ℕ) (x : Event) : Type 0 where
    pub state : NetworkState
    pub next : NetworkState
    pub leads : IsNetworkRun e hosts cap (take i h) state
    pub step : NetworkSteps e hosts cap state x next
    pub more : IsNetworkRun e hosts cap (take (suc i) h) next

  prefix_leads : (xs : List Event) (n m : NetworkState) (i : ℕ) → NetworkLeads e hosts cap n xs m → (k : NetworkState) × NetworkLeads e hosts cap n (take i xs) k
  prefix_leads xs n m zero l = (n, refl)
  prefix_leads [] n m (suc i) l = (n, refl)
  prefix_leads (x ∷ xs) n m (suc i) l = let r = prefix_leads xs l.0 m i l.2 in (r.0, (l.0, l.1, r.1))

  pub reached : (i : ℕ) (x : Event) → slice_get h i ≡ Some x → Reached i x
  reached i x there =
      let f = prefix_leads h (first_state e) last (suc i) run in
      let l : NetworkLeads e hosts cap (first_state e) (take i h ++ x ∷ []) f.0 = subst (λ (z : List Event). NetworkLeads e hosts cap (first_state e) z f.0) (take_next h i x there) f.1 in
      let c = leads_cut e hosts cap (take i h) (x ∷ []) (first_state e) f.0 l in
      record { state = c.0; next = f.0; leads = c.1; step = one_step e hosts cap x c.0 f.0 c.2; more = f.1 }

  -- what is directly before an event has a lesser number
  pub less : (i j : ℕ) → IsDirectlyBefore h cap i j → i < j
  less i j (program_order p lt a b) = lt
  less i j (start_order n m lt a b) = lt
  less i j (message_order t n a b) = go (cases_lt i j)
    where
      go : (i < j) ⊎ (j ≤ i) → i < j
      go (inl lt) = lt
      go (inr le) =
          let r : Reached j b.event = reached j b.event b.there in
          let s : StepEffect e hosts cap r.state b.event r.next = step_effect e hosts cap r.state b.event r.next r.step in
          let long : 0 < length (queue_of r.state t) = received_long cap r.state b.event t s.fits b.of_kind in
          let c = run_length e hosts cap t (take j h) r.state r.leads in
          let g = count_grows (Sends t) h j i le in
          let u = a.number in
          let w = b.number in
          absurd (omega arith)
  less i j (capacity_order t n c is a b) = go (cases_lt i j)
    where
      go : (i < j) ⊎ (j ≤ i) → i < j
      go (inl lt) = lt
      go (inr le) =
          let r : Reached j b.event = reached j b.event b.there in
          let s : StepEffect e hosts cap r.state b.event r.next = step_effect e hosts cap r.state b.event r.next r.step in
          let short : length (queue_of r.state t) < c = sent_short cap r.state b.event t c is s.fits b.of_kind in
          let d = run_length e hosts cap t (take j h) r.state r.leads in
          let g = count_grows (Receives t) h j i le in
          let u = a.number in
          let w = b.number in
          absurd (omega arith)

module _ (e : Endpoints) (hosts : Hosts) (cap : Option ℕ) (h : List Event) (exclusive : KeepsRolesExclusive e hosts cap) (last : NetworkState) (run : IsNetworkRun e hosts cap h last) where
  -- ---- permutations of the first events

  pub record PermutedRun (n : NetworkState) (o : List ℕ) : Type 0 where
    pub state : NetworkState
    pub leads : IsNetworkRun e hosts cap (permuted h o) state
    pub same : IsSameState n state
    pub placed : ArePlaced h o

  -- the last number is put somewhere into a permutation of the others
  module _ (k : ℕ) (x : Event) (there : slice_get h k ≡ Some x) (u v : List ℕ) (order : IsPermutationBelow k (u ++ v)) (closed : IsClosed h cap (u ++ k ∷ v)) where
    absent : (y : ℕ) → occurs y (u ++ v) ≤ 1
    absent y = order_once k (u ++ v) order y

    others_closed : IsClosed h cap (u ++ v)
    others_closed a j b is i before = go (cut a b u v j (sym is))
      where
        below : j < k
        below = order_below k (u ++ v) order j (subst (λ (z : List ℕ). 0 < occurs j z) (sym is) (member_occurs j a b))

        go : ((r : List ℕ) × (u ≡ a ++ j ∷ r) × (b ≡ r ++ v)) ⊎ ((r : List ℕ) × (a ≡ u ++ r) × (v ≡ r ++ j ∷ b)) → 0 < occurs i a
        go (inl (r, p, q)) = closed a j (r ++ k ∷ v) (ap (λ z. z ++ k ∷ v) p ∙ append_assoc a (j ∷ r) (k ∷ v)) i before
        go (inr (r, p, q)) =
            let whole : u ++ k ∷ v ≡ (u ++ k ∷ r) ++ j ∷ b = ap (λ z. u ++ k ∷ z) q ∙ sym (append_assoc u (k ∷ r) (j ∷ b)) in
            let c : 0 < occurs i (u ++ k ∷ r) = closed (u ++ k ∷ r) j b whole i before in
            let lt : i < j = less e hosts cap h last run i j before in
            let d = occurs-append i u (k ∷ r) in
            let f : occurs i (k ∷ r) ≡ occurs i r = occurs_other i k r (let lower = below in λ same. omega arith) in
            let g : occurs i a ≡ occurs i u + occurs i r = ap (occurs i) p ∙ occurs-append i u r in
            omega arith

    -- none of those that follow x is directly before it
    passed : (n : NetworkState) → PermutedRun n (u ++ v) → k ≤ length h → ArePassed cap h u v x
    passed n by le a y b is = (
      w.0,
      w.1,
      record {
        apart = λ p i j. late (program_order p below (record { event = w.0; there = w.1; part = i }) (record { event = x; there = there; part = j }));
        starts = λ i j. late (start_order (count Starts (take y h)) (count Starts (take k h)) below (record { event = w.0; there = w.1; of_kind = i; number = refl }) (record { event = x; there = there; of_kind = j; number = refl }));
        load = λ t i j same. late (message_order t (count (Sends t) (take y h)) (record { event = w.0; there = w.1; of_kind = i; number = refl })
            (record { event = x; there = there; of_kind = j; number = sym (sym (place (Sends t) i) ∙ same ∙ whole (Receives t)) }));
        room = λ t c bounded i j same. late (capacity_order t (count (Receives t) (take y h)) c bounded (record { event = w.0; there = w.1; of_kind = i; number = refl })
            (record { event = x; there = there; of_kind = j; number = sym (whole (Sends t)) ∙ same ∙ ap (λ z. z + c) (place (Receives t) i) }));
      },
    )
      where
        in_v : 0 < occurs y v
        in_v = subst (λ (z : List ℕ). 0 < occurs y z) (sym is) (member_occurs y a b)

        below : y < k
        below = order_below k (u ++ v) order y (let c = occurs-append y u v in let d = in_v in omega arith)

        w : (z : Event) × (slice_get h y ≡ Some z)
        w = event_at h y (omega (arith, below))

        late : IsDirectlyBefore h cap y k → ⊥
        late before =
            let c : 0 < occurs y u = closed u k v refl y before in
            let d = occurs-append y u v in
            let f = in_v in
            let g = absent y in
            omega arith

        split : u ++ v ≡ (u ++ a) ++ y ∷ b
        split = ap (λ z. u ++ z) is ∙ sym (append_assoc u a (y ∷ b))

        place : (m : EventKind) → has_kind m w.0 ≡ true → count m (permuted h (u ++ a)) ≡ count m (take y h)
        place m i = by.placed (u ++ a) y b split w.0 w.1 m i

        whole : (m : EventKind) → count m (permuted h ((u ++ a) ++ y ∷ b)) ≡ count m (take k h)
        whole m = ap (λ z. count m (permuted h z)) (sym split) ∙ order_count m h k (u ++ v) order le

    put_in : (n n1 : NetworkState) → PermutedRun n (u ++ v) → NetworkSteps e hosts cap n x n1 → k ≤ length h → PermutedRun n1 (u ++ k ∷ v)
    put_in n n1 by step le = record { state = moved.state; leads = leads; same = same_trans n1 s.state moved.state s.same moved.same; placed = placed }
      where
        s : StepsSame e hosts cap by.state x n1
        s = same_steps e hosts cap n by.state n1 x by.same step

        c : (mid : NetworkState) × NetworkLeads e hosts cap (first_state e) (permuted h u) mid × NetworkLeads e hosts cap mid (permuted h v) by.state
        c = leads_cut e hosts cap (permuted h u) (permuted h v) (first_state e) by.state (subst (λ (z : List Event). NetworkLeads e hosts cap (first_state e) z by.state) (permuted-append h u v) by.leads)

        moved : Moved e hosts cap h exclusive x c.0 v s.state
        moved = move e hosts cap h exclusive x v u (passed n by le) c.0 by.state s.state c.1 c.2 s.steps

        leads : IsNetworkRun e hosts cap (permuted h (u ++ k ∷ v)) moved.state
        leads =
            subst (λ (z : List Event). IsNetworkRun e hosts cap z moved.state) (sym (permuted-append h u (k ∷ v) ∙ ap (λ z. permuted h u ++ z) (permuted_at h k v x there)))
            (leads_on e hosts cap (permuted h u) (x ∷ permuted h v) (first_state e) c.0 moved.state c.1 (moved.mid, moved.first, moved.rest))

        placed : ArePlaced h (u ++ k ∷ v)
        placed a i b is z at m of_kind = go (cut a b u (k ∷ v) i (sym is))
          where
            at_last : (r : List ℕ) → a ≡ u ++ r → r ≡ [] → k ≡ i → count m (permuted h a) ≡ count m (take i h)
            at_last r p q same =
                let is_x : Some z ≡ Some x = sym at ∙ ap (slice_get h) (sym same) ∙ there in
                let z_x : z ≡ x = cc in
                let f : count m (permuted h v) ≡ 0 = moved.none m (ap (has_kind m) (sym z_x) ∙ of_kind) in
                let g = count_permuted m h u v in
                let d = order_count m h k (u ++ v) order le in
                let j : count m (permuted h a) ≡ count m (permuted h u) = ap (λ y. count m (permuted h y)) (p ∙ ap (λ y. u ++ y) q ∙ append-nil u) in
                let l : count m (take k h) ≡ count m (take i h) = ap (λ y. count m (take y h)) same in
                omega arith

            behind : (r r' : List ℕ) → a ≡ u ++ r → r ≡ k ∷ r' → v ≡ r' ++ i ∷ b → count m (permuted h a) ≡ count m (take i h)
            behind r r' p q in_v =
                let d : count m (permuted h (u ++ r')) ≡ count m (take i h) = by.placed (u ++ r') i b (ap (λ y. u ++ y) in_v ∙ sym (append_assoc u r' (i ∷ b))) z at m of_kind in
                let here : count m (permuted h (i ∷ b)) ≡ one_if (has_kind m z) + count m (permuted h b) = count_at m h i b z at in
                let marked_one : one_if (has_kind m z) ≡ 1 = ap one_if of_kind in
                let in_back : count m (permuted h v) ≡ count m (permuted h r') + count m (permuted h (i ∷ b)) = count_cut m h _ r' (i ∷ b) in_v in
                let plain : one_if (has_kind m x) ≡ 0 = ap one_if (false_from_ne_true (has_kind m x) (λ j. (let f = moved.none m j in omega arith))) in
                let f : count m (permuted h a) ≡ count m (permuted h u) + count m (permuted h (k ∷ r')) = count_cut m h _ u (k ∷ r') (p ∙ ap (λ y. u ++ y) q) in
                let g : count m (permuted h (k ∷ r')) ≡ one_if (has_kind m x) + count m (permuted h r') = count_at m h k r' x there in
                let j = count_permuted m h u r' in
                omega arith

            after : (r : List ℕ) → a ≡ u ++ r → k ∷ v ≡ r ++ i ∷ b → count m (permuted h a) ≡ count m (take i h)
            after [] p q = let same : k ≡ i = cc in at_last [] p refl same
            after (y ∷ r) p q = let first : k ≡ y = cc in let rest : v ≡ r ++ i ∷ b = cc in behind (y ∷ r) r p (ap (λ w. w ∷ r) (sym first)) rest

            go : ((r : List ℕ) × (u ≡ a ++ i ∷ r) × (b ≡ r ++ (k ∷ v))) ⊎ ((r : List ℕ) × (a ≡ u ++ r) × (k ∷ v ≡ r ++ i ∷ b)) → count m (permuted h a) ≡ count m (take i h)
            go (inl (r, p, q)) = by.placed a i (r ++ v) (ap (λ y. y ++ v) p ∙ append_assoc a (i ∷ r) v) z at m of_kind
            go (inr (r, p, q)) = after r p q

  pub permuted_run : (k : ℕ) → k ≤ length h → (n : NetworkState) → IsNetworkRun e hosts cap (take k h) n → (o : List ℕ) → IsPermutationBelow k o → IsClosed h cap o → PermutedRun n o
  permuted_run zero le n l o order closed = record {
    state = n;
    leads = subst (λ (z : List ℕ). IsNetworkRun e hosts cap (permuted h z) n) (sym order) l;
    same = record { machines = refl; queues = λ t. refl; sid = refl };
    placed = λ a i b is x there m of_kind. absurd (let c = member_occurs i a b in let d : occurs i o ≡ occurs i (a ++ i ∷ b) = ap (occurs i) is in let f : occurs i o ≡ 0 = ap (occurs i) order in omega arith);
  }
  permuted_run (suc k) le n l o order closed =
      let x = event_at h k le in
      let c = leads_cut e hosts cap (take k h) (x.0 ∷ []) (first_state e) n (subst (λ (z : List Event). NetworkLeads e hosts cap (first_state e) z n) (take_next h k x.0 x.1) l) in
      let closed' : IsClosed h cap (order.0 ++ k ∷ order.1) = subst (IsClosed h cap) order.2 closed in
      let by : PermutedRun c.0 (order.0 ++ order.1) = permuted_run k (omega arith) c.0 c.1 (order.0 ++ order.1) order.3 (others_closed k x.0 x.1 order.0 order.1 order.3 closed') in
      subst (PermutedRun n) (sym order.2) (put_in k x.0 x.1 order.0 order.1 order.3 closed' c.0 n by (one_step e hosts cap x.0 c.0 n c.2) (omega arith))

  -- a permutation of all events
  pub whole_permuted_run : (o : List ℕ) → IsPermutationBelow (length h) o → IsClosed h cap o → PermutedRun last o
  whole_permuted_run o order closed = permuted_run (length h) (omega arith) last (subst (λ (z : List Event). IsNetworkRun e hosts cap z last) (sym (take_all (length h) h (omega arith))) run) o order closed

-- a linear extension is such a permutation
pub extension_closed : (h : List Event) (cap : Option ℕ) (o : List ℕ) → IsLinearExtension h cap o → IsClosed h cap o
extension_closed h cap o ext a j b is i before = before_in (length h) o ext.whole a b i j is (ext.extends i j (directly before))
