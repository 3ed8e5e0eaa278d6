-- In each rearrangement an event comes after all that is directly before it.
use Rattle.std.proofs.Common.{◌≡◌, ℕ, ◌<◌, ◌≤◌, ◌+◌, true, List, [], ◌∷◌, ◌++◌, length, take, refl, sym, ap, ◌∙◌, subst, Option, Some, None, arith, append_assoc, append-nil, inl, inr, ◌⊎◌}
use Rattle.std.specs.Prelude.{slice_get}
use Rattle.std.proofs.lemmas.Bool.{false_from_ne_true, cases_lt}
use Rattle.std.proofs.lemmas.Option.{slice_get_within}
use Rattle.chor_base.specs.declared.names.NameId.{NameId}
use Rattle.chor_base.specs.declared.event.Event.{Event}
use Rattle.chor_base.specs.declared.event.Event.TheVariants as event
use Rattle.chor_base.specs.Events.{Triple}
use Rattle.chor_base.specs.Meaning.{Hosts}
use Rattle.endpoint_code.specs.declared.endpoints.Endpoints.{Endpoints}
use Rattle.endpoint_code.specs.Network.{NetworkState, queue_of, NetworkSteps, first_state}
use Rattle.endpoint_code.specs.NetworkRuns.{NetworkLeads, IsNetworkRun}
use Rattle.event_orders.specs.EventKinds.{EventKind, Sends, Receives, Starts, has_kind, one_if, count, participates}
use Rattle.event_orders.specs.Holders.{IsRoleHolder, KeepsRolesExclusive}
use Rattle.event_orders.proofs.Effects.{role_of}
use Rattle.event_orders.proofs.StepEffects.{StepEffect, step_effect}
use Rattle.event_orders.proofs.Commuting.{stays}
use Rattle.event_orders.specs.Orders.{IsPermutationBelow, IsBefore, permuted, with_event}
use Rattle.event_orders.specs.HappensBefore.{IsDirectlyBefore, program_order, start_order, message_order, capacity_order, HappensBefore, directly, through, IsRearrangement}
use Rattle.event_orders.proofs.Numbers.{occurs, occurs-append, occurs_self, member_occurs, member_at, cut, order_has, order_once, order_below, before_from, before_in, before_trans}
use Rattle.event_orders.proofs.Counting.{count_permuted, count_cut, count_at, event_at, permuted-append, permuted_at, leads_cut, leads_on, leads_one, leads_sid, run_length, received_long, sent_short}
use Rattle.event_orders.proofs.Extending.{IsClosed, PermutedRun, less, whole_permuted_run}
use Rattle.event_orders.proofs.Completing.{prefix_distinct, Completed, complete}

module _ (e : Endpoints) (hosts : Hosts) (cap : Option ℕ) (h : List Event) (exclusive : KeepsRolesExclusive e hosts cap) (last : NetworkState) (run : IsNetworkRun e hosts cap h last) where
  -- a closed list is closed when it is completed
  pub completed_closed : (n : ℕ) (d : List ℕ) → IsClosed h cap d → (c : Completed n d) → IsClosed h cap (d ++ c.rest)
  completed_closed n d closed c a j b is i before = go (cut a b d c.rest j (sym is))
    where
      go : ((r : List ℕ) × (d ≡ a ++ j ∷ r) × (b ≡ r ++ c.rest)) ⊎ ((r : List ℕ) × (a ≡ d ++ r) × (c.rest ≡ r ++ j ∷ b)) → 0 < occurs i a
      go (inl (r, p, q)) = closed a j r p i before
      go (inr (r, p, q)) = subst (λ (z : List ℕ). 0 < occurs i z) (sym p) (c.all_before r j b q i (less e hosts cap h last run i j before))

  -- ---- while the holder of a role makes no event, nobody else uses its triple

  none_alike : (k : EventKind) (part : ℕ × NameId) → role_of k ≡ Some part → (p : ℕ) (ws front : List Event) (n m : NetworkState) → IsNetworkRun e hosts cap front n → NetworkLeads e hosts cap n ws m
      → IsRoleHolder e n p part → ((a b : List Event) (w : Event) → ws ≡ a ++ w ∷ b → participates p w ≡ true → ⊥) → count k ws ≡ 0
  none_alike k part role p [] front n m to leads holds none = refl
  none_alike k part role p (w ∷ ws) front n m to leads holds none =
      let s : StepEffect e hosts cap n w leads.0 = step_effect e hosts cap n w leads.0 leads.1 in
      let other : has_kind k w ≡ true → ⊥ = λ i. (let u = s.user k part role i in exclusive front n to p u.0 part (λ same. none [] ws w refl (subst (λ z. participates z w ≡ true) (sym same) u.1)) holds u.2) in
      let stood : slice_get leads.0.machines p ≡ slice_get n.machines p = stays e hosts cap n w leads.0 leads.1 p (slice_get_within n.machines p holds.machine holds.there) (none [] ws w refl) in
      let held : IsRoleHolder e leads.0 p part = record { machine = holds.machine; there = stood ∙ holds.there; place = holds.place; at_place = holds.at_place; name = holds.name; bound = holds.bound } in
      let more : count k ws ≡ 0 = none_alike k part role p ws (front ++ w ∷ []) leads.0 m (leads_on e hosts cap front (w ∷ []) (first_state e) n leads.0 to (leads.0, leads.1, refl)) leads.2 held (λ a b z is. none (w ∷ a) b z (ap (λ y. w ∷ y) is)) in
      let f : one_if (has_kind k w) ≡ 0 = ap one_if (false_from_ne_true (has_kind k w) other) in
      omega arith

  -- each of the permuted events has a number
  numbered : (ns : List ℕ) (a b : List Event) (w : Event) → permuted h ns ≡ a ++ w ∷ b → (i : ℕ) × (0 < occurs i ns) × (slice_get h i ≡ Some w)
  numbered [] [] b w is = absurd cc
  numbered [] (x ∷ a) b w is = absurd cc
  numbered (i ∷ ns) a b w is = go (slice_get h i) refl is (λ a' k. numbered ns a' b w k)
    where
      further : (j : ℕ) × (0 < occurs j ns) × (slice_get h j ≡ Some w) → (j : ℕ) × (0 < occurs j (i ∷ ns)) × (slice_get h j ≡ Some w)
      further (j, lt, there) = (j, omega arith, there)

      at : (x : Event) (a' : List Event) → slice_get h i ≡ Some x → x ∷ permuted h ns ≡ a' ++ w ∷ b → ((a'' : List Event) → permuted h ns ≡ a'' ++ w ∷ b → (j : ℕ) × (0 < occurs j ns) × (slice_get h j ≡ Some w))
          → (j : ℕ) × (0 < occurs j (i ∷ ns)) × (slice_get h j ≡ Some w)
      at x [] there k more = let same : x ≡ w = cc in (i, omega (arith, occurs_self i ns), there ∙ ap Some same)
      at x (y ∷ a') there k more = let rest : permuted h ns ≡ a' ++ w ∷ b = cc in further (more a' rest)

      go : (o : Option Event) → slice_get h i ≡ o → with_event o (permuted h ns) ≡ a ++ w ∷ b → ((a' : List Event) → permuted h ns ≡ a' ++ w ∷ b → (j : ℕ) × (0 < occurs j ns) × (slice_get h j ≡ Some w))
          → (j : ℕ) × (0 < occurs j (i ∷ ns)) × (slice_get h j ≡ Some w)
      go None there k more = further (more a k)
      go (Some x) there k more = at x a there k more

  same_start : (c c' : NameId) (s s' : ℕ) (ps ps' : List (NameId × ℕ)) → event.Start c s ps ≡ event.Start c' s' ps' → s ≡ s'
  same_start c c' s s' ps ps' is = cc

  -- ---- one event more of a rearrangement

  module _ (o d : List ℕ) (y : ℕ) (r : List ℕ) (re : IsRearrangement e hosts cap h o) (is : o ≡ d ++ y ∷ r) (closed : IsClosed h cap d) where
    y_below : y < length h
    y_below = order_below (length h) o re.whole y (subst (λ (z : List ℕ). 0 < occurs y z) (sym is) (member_occurs y d r))

    x : (z : Event) × (slice_get h y ≡ Some z)
    x = event_at h y y_below

    c : Completed (length h) d
    c = complete (length h) d (prefix_distinct (length h) d (y ∷ r) (subst (IsPermutationBelow (length h)) is re.whole))

    by : PermutedRun e hosts cap h exclusive last run last (d ++ c.rest)
    by = whole_permuted_run e hosts cap h exclusive last run (d ++ c.rest) c.order (completed_closed (length h) d closed c)

    once : (i : ℕ) → occurs i d + occurs i c.rest ≤ 1
    once i = let a = order_once (length h) (d ++ c.rest) c.order i in let b = occurs-append i d c.rest in omega arith

    has : (i : ℕ) → i < length h → occurs i d + occurs i c.rest ≡ 1
    has i lt = let a = order_has (length h) (d ++ c.rest) c.order i lt in let b = occurs-append i d c.rest in omega arith

    y_not : occurs y d ≡ 0
    y_not =
        let a = order_once (length h) o re.whole y in
        let b : occurs y o ≡ occurs y d + occurs y (y ∷ r) = ap (occurs y) is ∙ occurs-append y d (y ∷ r) in
        let s = occurs_self y r in
        omega arith

    in_rest : (i : ℕ) → i < length h → occurs i d ≡ 0 → (a : List ℕ) × (b : List ℕ) × (c.rest ≡ a ++ i ∷ b)
    in_rest i lt none = member_at i c.rest (let a = has i lt in omega arith)

    y_at : (a : List ℕ) × (b : List ℕ) × (c.rest ≡ a ++ y ∷ b)
    y_at = in_rest y y_below y_not

    split : d ++ c.rest ≡ (d ++ y_at.0) ++ y ∷ y_at.1
    split = ap (λ z. d ++ z) y_at.2 ∙ sym (append_assoc d y_at.0 (y ∷ y_at.1))

    -- the state after those in front, at which y comes next in the rearrangement
    cut_by : (mid : NetworkState) × IsNetworkRun e hosts cap (permuted h d) mid × NetworkLeads e hosts cap mid (permuted h c.rest) by.state
    cut_by = leads_cut e hosts cap (permuted h d) (permuted h c.rest) (first_state e) by.state (subst (λ (z : List Event). NetworkLeads e hosts cap (first_state e) z by.state) (permuted-append h d c.rest) by.leads)

    cut_o : (mid : NetworkState) × IsNetworkRun e hosts cap (permuted h d) mid × NetworkLeads e hosts cap mid (x.0 ∷ permuted h r) re.last
    cut_o = leads_cut e hosts cap (permuted h d) (x.0 ∷ permuted h r) (first_state e) re.last
        (subst (λ (z : List Event). NetworkLeads e hosts cap (first_state e) z re.last) (ap (permuted h) is ∙ permuted-append h d (y ∷ r) ∙ ap (λ z. permuted h d ++ z) (permuted_at h y r x.0 x.1)) re.run)

    abbrev n : NetworkState
    n = cut_by.0

    same_mid : cut_o.0 ≡ n
    same_mid = leads_one e hosts cap (permuted h d) (first_state e) cut_o.0 cut_by.0 cut_o.1 cut_by.1

    makes_y : NetworkSteps e hosts cap n x.0 cut_o.2.0
    makes_y = subst (λ (z : NetworkState). NetworkSteps e hosts cap z x.0 cut_o.2.0) same_mid cut_o.2.1

    s : StepEffect e hosts cap n x.0 cut_o.2.0
    s = step_effect e hosts cap n x.0 cut_o.2.0 makes_y

    cut_rest : (mid : NetworkState) × NetworkLeads e hosts cap n (permuted h y_at.0) mid × NetworkLeads e hosts cap mid (x.0 ∷ permuted h y_at.1) by.state
    cut_rest = leads_cut e hosts cap (permuted h y_at.0) (x.0 ∷ permuted h y_at.1) n by.state
        (subst (λ (z : List Event). NetworkLeads e hosts cap n z by.state) (ap (permuted h) y_at.2 ∙ permuted-append h y_at.0 (y ∷ y_at.1) ∙ ap (λ z. permuted h y_at.0 ++ z) (permuted_at h y y_at.1 x.0 x.1)) cut_by.2)

    -- no event of its processes comes in between in the run
    still : (p : ℕ) → participates p x.0 ≡ true → (a b : List Event) (w : Event) → permuted h y_at.0 ≡ a ++ w ∷ b → participates p w ≡ true → ⊥
    still p part a b w k wpart =
        let i = numbered y_at.0 a b w k in
        let lt : i.0 < y = c.ascends y_at.0 y y_at.1 y_at.2 i.0 i.1 in
        let f : 0 < occurs i.0 d = before_in (length h) o re.whole d r i.0 y is (re.kept p i.0 y lt (record { event = w; there = i.2; part = wpart }) (record { event = x.0; there = x.1; part = part })) in
        let g : occurs i.0 c.rest ≡ occurs i.0 y_at.0 + occurs i.0 (y ∷ y_at.1) = ap (occurs i.0) y_at.2 ∙ occurs-append i.0 y_at.0 (y ∷ y_at.1) in
        let m = i.1 in
        let l = once i.0 in
        omega arith

    no_more : (k : EventKind) → has_kind k x.0 ≡ true → count k (permuted h y_at.0) ≡ 0
    no_more (Sends t) of_kind = let u = s.user (Sends t) (t.0, t.1) refl of_kind in none_alike (Sends t) (t.0, t.1) refl u.0 (permuted h y_at.0) (permuted h d) n cut_rest.0 cut_by.1 cut_rest.1 u.2 (still u.0 u.1)
    no_more (Receives t) of_kind = let u = s.user (Receives t) (t.0, t.2) refl of_kind in none_alike (Receives t) (t.0, t.2) refl u.0 (permuted h y_at.0) (permuted h d) n cut_rest.0 cut_by.1 cut_rest.1 u.2 (still u.0 u.1)
    no_more Starts of_kind =
        let later : StepEffect e hosts cap cut_rest.0 x.0 cut_rest.2.0 = step_effect e hosts cap cut_rest.0 x.0 cut_rest.2.0 cut_rest.2.1 in
        let a = s.numbered of_kind in
        let b = later.numbered of_kind in
        let same : n.sid ≡ cut_rest.0.sid = same_start a.0 b.0 n.sid cut_rest.0.sid a.1 b.1 (sym a.2 ∙ b.2) in
        let f = leads_sid e hosts cap (permuted h y_at.0) n cut_rest.0 cut_rest.1 in
        omega arith

    -- as many events of its kind are in front as before it in the run
    number : (k : EventKind) → has_kind k x.0 ≡ true → count k (take y h) ≡ count k (permuted h d)
    number k of_kind =
        let a : count k (permuted h (d ++ y_at.0)) ≡ count k (take y h) = by.placed (d ++ y_at.0) y y_at.1 split x.0 x.1 k of_kind in
        let b = count_permuted k h d y_at.0 in
        let f = no_more k of_kind in
        omega arith

    -- each other event has at least as many events of its kind before it as are in front
    later : (i : ℕ) (z : Event) → slice_get h i ≡ Some z → occurs i d ≡ 0 → (k : EventKind) → has_kind k z ≡ true → count k (permuted h d) ≤ count k (take i h)
    later i z there none k of_kind =
        let p = in_rest i (slice_get_within h i z there) none in
        let a : count k (permuted h (d ++ p.0)) ≡ count k (take i h) = by.placed (d ++ p.0) i p.1 (ap (λ w. d ++ w) p.2 ∙ sym (append_assoc d p.0 (i ∷ p.1))) z there k of_kind in
        let b = count_permuted k h d p.0 in
        omega arith

    long : (t : Triple) → length (queue_of n t) + count (Receives t) (permuted h d) ≡ count (Sends t) (permuted h d)
    long t = run_length e hosts cap t (permuted h d) n cut_by.1

    same_event : (z : Event) → slice_get h y ≡ Some z → z ≡ x.0
    same_event z there = let k : Some z ≡ Some x.0 = sym there ∙ x.1 in cc

    in_front : (i : ℕ) → (occurs i d ≡ 0 → ⊥) → 0 < occurs i d
    in_front i never = go (cases_lt 0 (occurs i d))
      where
        go : (0 < occurs i d) ⊎ (occurs i d ≤ 0) → 0 < occurs i d
        go (inl lt) = lt
        go (inr le) = absurd (never (omega arith))

    pub directly_in_front : (i : ℕ) → IsDirectlyBefore h cap i y → 0 < occurs i d
    directly_in_front i (program_order p lt a b) = before_in (length h) o re.whole d r i y is (re.kept p i y lt a b)
    directly_in_front i (start_order m m' lt a b) = in_front i (λ none.
        let of_kind : has_kind Starts x.0 ≡ true = ap (has_kind Starts) (sym (same_event b.event b.there)) ∙ b.of_kind in
        let f : 0 < occurs i (d ++ y_at.0) = c.all_before y_at.0 y y_at.1 y_at.2 i lt in
        let g = occurs-append i d y_at.0 in
        let there : (u : List ℕ) × (v : List ℕ) × (y_at.0 ≡ u ++ i ∷ v) = member_at i y_at.0 (omega arith) in
        let k : count Starts (permuted h y_at.0) ≡ count Starts (permuted h there.0) + count Starts (permuted h (i ∷ there.1)) = count_cut Starts h _ there.0 (i ∷ there.1) there.2 in
        let l = count_at Starts h i there.1 a.event a.there in
        let one : one_if (has_kind Starts a.event) ≡ 1 = ap one_if a.of_kind in
        let zero_more = no_more Starts of_kind in
        omega arith)
    directly_in_front i (message_order t m a b) = in_front i (λ none.
        let of_kind : has_kind (Receives t) x.0 ≡ true = ap (has_kind (Receives t)) (sym (same_event b.event b.there)) ∙ b.of_kind in
        let f = number (Receives t) of_kind in
        let g : 0 < length (queue_of n t) = received_long cap n x.0 t s.fits of_kind in
        let k = long t in
        let l = later i a.event a.there none (Sends t) a.of_kind in
        let u = a.number in
        let w = b.number in
        omega arith)
    directly_in_front i (capacity_order t m limit bounded a b) = in_front i (λ none.
        let of_kind : has_kind (Sends t) x.0 ≡ true = ap (has_kind (Sends t)) (sym (same_event b.event b.there)) ∙ b.of_kind in
        let f = number (Sends t) of_kind in
        let g : length (queue_of n t) < limit = sent_short cap n x.0 t limit bounded s.fits of_kind in
        let k = long t in
        let l = later i a.event a.there none (Receives t) a.of_kind in
        let u = a.number in
        let w = b.number in
        omega arith)

    pub one_more : IsClosed h cap (d ++ y ∷ [])
    one_more a j b k i before = go (cut a b d (y ∷ []) j (sym k))
      where
        at : (q : List ℕ) → a ≡ d ++ q → y ∷ [] ≡ q ++ j ∷ b → 0 < occurs i a
        at [] p l =
            let same : y ≡ j = cc in
            let f : 0 < occurs i d = directly_in_front i (subst (IsDirectlyBefore h cap i) (sym same) before) in
            let g : occurs i a ≡ occurs i d = ap (occurs i) (p ∙ append-nil d) in
            omega arith
        at (z ∷ q) p l = let none : [] ≡ q ++ j ∷ b = cc in absurd (let f = member_occurs j q b in let g : 0 ≡ occurs j (q ++ j ∷ b) = ap (occurs j) none in omega arith)

        go : ((q : List ℕ) × (d ≡ a ++ j ∷ q) × (b ≡ q ++ (y ∷ []))) ⊎ ((q : List ℕ) × (a ≡ d ++ q) × (y ∷ [] ≡ q ++ j ∷ b)) → 0 < occurs i a
        go (inl (q, p, l)) = closed a j q p i before
        go (inr (q, p, l)) = at q p l

  all_closed : (o : List ℕ) → IsRearrangement e hosts cap h o → (r d : List ℕ) → o ≡ d ++ r → IsClosed h cap d → IsClosed h cap o
  all_closed o re [] d is closed = subst (IsClosed h cap) (sym (is ∙ append-nil d)) closed
  all_closed o re (y ∷ r) d is closed = all_closed o re r (d ++ y ∷ []) (is ∙ sym (append_assoc d (y ∷ []) r)) (one_more o d y r re is closed)

  pub rearranged_closed : (o : List ℕ) → IsRearrangement e hosts cap h o → IsClosed h cap o
  rearranged_closed o re = all_closed o re o [] refl (λ a j b k. absurd (let f = member_occurs j a b in let g : 0 ≡ occurs j (a ++ j ∷ b) = ap (occurs j) k in omega arith))

  -- ---- what happens before an event comes before it

  later_there : (i j : ℕ) → IsDirectlyBefore h cap i j → j < length h
  later_there i j (program_order p lt a b) = slice_get_within h j b.event b.there
  later_there i j (start_order m m' lt a b) = slice_get_within h j b.event b.there
  later_there i j (message_order t m a b) = slice_get_within h j b.event b.there
  later_there i j (capacity_order t m limit bounded a b) = slice_get_within h j b.event b.there

  pub closed_extends : (o : List ℕ) → IsPermutationBelow (length h) o → IsClosed h cap o → (i j : ℕ) → HappensBefore h cap i j → IsBefore o i j
  closed_extends o order closed i j (directly before) =
      let lt = later_there i j before in
      let f = order_has (length h) o order j lt in
      let p = member_at j o (omega arith) in
      before_from o p.0 p.1 i j p.2 (closed p.0 j p.1 p.2 i before)
  closed_extends o order closed i j (through k before after) = before_trans (length h) o order i k j (closed_extends o order closed i k before) (closed_extends o order closed k j after)

  pub shared_all : (i j : ℕ) → HappensBefore h cap i j → (o : List ℕ) → IsRearrangement e hosts cap h o → IsBefore o i j
  shared_all i j before o re = closed_extends o re.whole (rearranged_closed o re) i j before
