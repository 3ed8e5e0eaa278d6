-- A run that has, process by process, the same events as another one is a rearrangement of it.
use Rattle.std.proofs.Common.{◌≡◌, ℕ, suc, ◌<◌, ◌≤◌, ◌+◌, Bool, true, false, cond, ◌==◌, List, [], ◌∷◌, ◌++◌, length, take, filter, refl, sym, ap, ◌∙◌, subst, Option, Some, arith, append_assoc, append-nil, take_all, inl, inr, ◌⊎◌}
use Rattle.std.specs.Prelude.{slice_get}
use Rattle.std.proofs.lemmas.Bool.{true≢false, cases_eq, cases_order, cases_Bool, eqb-true, or_cases}
use Rattle.std.proofs.lemmas.Option.{slice_get_within}
use Rattle.std.proofs.lemmas.List.{append_cancel_left}
use Rattle.chor_base.specs.declared.names.NameId.{NameId}
use Rattle.chor_base.specs.declared.event.Event.{Event}
use Rattle.chor_base.specs.declared.event.Event.TheVariants as event
use Rattle.chor_base.specs.Meaning.{Hosts}
use Rattle.endpoint_code.specs.declared.endpoints.Endpoints.{Endpoints}
use Rattle.endpoint_code.specs.Network.{NetworkState, first_state}
use Rattle.endpoint_code.specs.NetworkRuns.{NetworkLeads, IsNetworkRun}
use Rattle.event_orders.specs.EventKinds.{Starts, has_kind, one_if, count, is_in, participates}
use Rattle.event_orders.proofs.StepEffects.{StepEffect, step_effect}
use Rattle.event_orders.specs.Orders.{IsPermutationBelow, IsBefore, permuted}
use Rattle.event_orders.specs.HappensBefore.{IsEventOf}
use Rattle.event_orders.specs.SameEvents.{HaveSameEvents, IsRearrangedAs}
use Rattle.event_orders.proofs.Numbers.{order_from, occurs, occurs-append, occurs_self, occurs_other, member_at, before_from}
use Rattle.event_orders.proofs.Counting.{event_at, count_next, count_grows, permuted-append, permuted_at, leads_sid}
use Rattle.event_orders.proofs.Extending.{Reached, reached}
use Rattle.event_orders.proofs.Selected.{passes, selected, selected-append, selected_fewer, selected_same, selected_cut, below, below_occurs, below_prefix, below_all, AllThere}

-- ---- one event after the other

alone : (r q : ℕ) → is_in q (r ∷ []) ≡ true → q ≡ r
alone r q h = go (or_cases (q == r) false h)
  where
    go : ((q == r) ≡ true) ⊎ (false ≡ true) → q ≡ r
    go (inl e) = eqb-true q r e
    go (inr e) = absurd (true≢false (sym e))

-- the first of the events with these numbers
first_number : (h : List Event) (rest : List ℕ) (y : Event) (ys : List Event) → AllThere h rest → permuted h rest ≡ y ∷ ys → (i : ℕ) × (more : List ℕ) × (rest ≡ i ∷ more) × (slice_get h i ≡ Some y) × (permuted h more ≡ ys)
first_number h [] y ys there is = absurd cc
first_number h (i ∷ more) y ys there is = go (event_at h i (there i (let s = occurs_self i more in omega arith)))
  where
    go : (x : Event) × (slice_get h i ≡ Some x) → (k : ℕ) × (rest : List ℕ) × (i ∷ more ≡ k ∷ rest) × (slice_get h k ≡ Some y) × (permuted h rest ≡ ys)
    go (x, at) =
        let both : x ∷ permuted h more ≡ y ∷ ys = sym (permuted_at h i more x at) ∙ is in
        let first : x ≡ y = cc in
        let rest : permuted h more ≡ ys = cc in
        (i, more, refl, at ∙ ap Some first, rest)

nothing_left : (h : List Event) (rest : List ℕ) → AllThere h rest → permuted h rest ≡ [] → rest ≡ []
nothing_left h [] there is = refl
nothing_left h (i ∷ more) there is =
    let x = event_at h i (there i (let s = occurs_self i more in omega arith)) in
    let none : x.0 ∷ permuted h more ≡ [] = sym (permuted_at h i more x.0 x.1) ∙ is in
    absurd cc

same_start : (c c' : NameId) (s s' : ℕ) (ps ps' : List (NameId × ℕ)) → event.Start c s ps ≡ event.Start c' s' ps' → s ≡ s'
same_start c c' s s' ps ps' is = cc

-- one process participates in an event that isn't a start
one_process : (y : Event) → has_kind Starts y ≡ false → (p q : ℕ) → participates p y ≡ true → participates q y ≡ true → q ≡ p
one_process (event.Start c s ps) h p q i j = absurd (true≢false h)
one_process (event.Send r s a b l) h p q i j = alone r q j ∙ sym (alone r p i)
one_process (event.Recv r s a b l) h p q i j = alone r q j ∙ sym (alone r p i)
one_process (event.Test r b) h p q i j = alone r q j ∙ sym (alone r p i)
one_process (event.Set r x v) h p q i j = alone r q j ∙ sym (alone r p i)
one_process (event.Show r v) h p q i j = alone r q j ∙ sym (alone r p i)
one_process (event.Host r x f a b v) h p q i j = alone r q j ∙ sym (alone r p i)

module _ (e : Endpoints) (hosts : Hosts) (cap : Option ℕ) (h : List Event) (last : NetworkState) (run : IsNetworkRun e hosts cap h last) where
  abbrev mine : ℕ → List ℕ
  mine p = selected h (participates p) (below (length h))

  mine_there : (p i : ℕ) → 0 < occurs i (mine p) → i < length h
  mine_there p i lt = go (below_occurs (length h) i)
    where
      go : ((i < length h) × (occurs i (below (length h)) ≡ 1)) ⊎ ((length h ≤ i) × (occurs i (below (length h)) ≡ 0)) → i < length h
      go (inl (l, o)) = l
      go (inr (l, o)) = absurd (let f = selected_fewer h (participates p) (below (length h)) i in omega arith)

  -- no start comes twice
  one_start : (y : Event) → has_kind Starts y ≡ true → (i k : ℕ) → slice_get h i ≡ Some y → slice_get h k ≡ Some y → i ≡ k
  one_start y of_kind i k a b = go (cases_order i k)
    where
      number : (j : ℕ) → slice_get h j ≡ Some y → (c : NameId) × (s : ℕ) × (ps : List (NameId × ℕ)) × (y ≡ event.Start c s ps) × (s ≡ count Starts (take j h))
      number j at =
          let r : Reached e hosts cap h last run j y = reached e hosts cap h last run j y at in
          let st : StepEffect e hosts cap r.state y r.next = step_effect e hosts cap r.state y r.next r.step in
          let n = st.numbered of_kind in
          let sid = leads_sid e hosts cap (take j h) (first_state e) r.state r.leads in
          (n.0, r.state.sid, n.1, n.2, omega arith)

      same : count Starts (take i h) ≡ count Starts (take k h)
      same =
          let m = number i a in
          let n = number k b in
          sym m.4 ∙ same_start m.0 n.0 m.1 n.1 m.2 n.2 (sym m.3 ∙ n.3) ∙ n.4

      apart : (l m : ℕ) → l < m → slice_get h l ≡ Some y → count Starts (take l h) ≡ count Starts (take m h) → ⊥
      apart l m lt at eq =
          let c = count_next Starts h l y at in
          let o : one_if (has_kind Starts y) ≡ 1 = ap one_if of_kind in
          let g = count_grows Starts h (suc l) m lt in
          absurd (omega arith)

      go : (i ≡ k) ⊎ ((i < k) ⊎ (k < i)) → i ≡ k
      go (inl e) = e
      go (inr (inl lt)) = absurd (apart i k lt a same)
      go (inr (inr lt)) = absurd (apart k i lt b (sym same))

  -- of process p, the numbers d are the first ones, and the events r are those of the other numbers
  abbrev Left : List ℕ → List Event → ℕ → Type 0
  Left d r p = (rest : List ℕ) × (mine p ≡ selected h (participates p) d ++ rest) × (permuted h rest ≡ filter (participates p) r)

  left_there : (d : List ℕ) (p : ℕ) (rest : List ℕ) → mine p ≡ selected h (participates p) d ++ rest → AllThere h rest
  left_there d p rest is i lt = mine_there p i (let c : occurs i (mine p) ≡ occurs i (selected h (participates p) d) + occurs i rest = ap (occurs i) is ∙ occurs-append i (selected h (participates p) d) rest in omega arith)

  abbrev Next : List ℕ → Event → List Event → ℕ → Type 0
  Next d y r p = (i : ℕ) × (more : List ℕ) × (mine p ≡ selected h (participates p) d ++ (i ∷ more)) × (slice_get h i ≡ Some y) × (permuted h more ≡ filter (participates p) r)

  next_of : (d : List ℕ) (y : Event) (r : List Event) (p : ℕ) → participates p y ≡ true → Left d (y ∷ r) p → Next d y r p
  next_of d y r p part (rest, is, events) =
      let f = first_number h rest y (filter (participates p) r) (left_there d p rest is) (events ∙ ap (λ (c : Bool). cond c (y ∷ filter (participates p) r) (filter (participates p) r)) part) in
      (f.0, f.1, is ∙ ap (λ z. selected h (participates p) d ++ z) f.2, f.3, f.4)

  -- all processes of an event have the same number for it
  same_next : (d : List ℕ) (y : Event) (r : List Event) (p q : ℕ) → participates p y ≡ true → participates q y ≡ true → (a : Next d y r p) → (b : Next d y r q) → b.0 ≡ a.0
  same_next d y r p q i j a b = go (cases_Bool (has_kind Starts y))
    where
      go : (has_kind Starts y ≡ true) ⊎ (has_kind Starts y ≡ false) → b.0 ≡ a.0
      go (inl start) = one_start y start b.0 a.0 b.3 a.3
      go (inr plain) =
          let same : q ≡ p = one_process y plain p q i j in
          let is : mine p ≡ selected h (participates p) d ++ (b.0 ∷ b.1) = subst (λ (z : ℕ). mine z ≡ selected h (participates z) d ++ (b.0 ∷ b.1)) same b.2 in
          let lists : b.0 ∷ b.1 ≡ a.0 ∷ a.1 = append_cancel_left (selected h (participates p) d) (b.0 ∷ b.1) (a.0 ∷ a.1) (sym is ∙ a.2) in
          cc

  one_selected : (f : Event → Bool) (i : ℕ) (y : Event) → slice_get h i ≡ Some y → (c : Bool) → f y ≡ c → selected h f (i ∷ []) ≡ cond c (i ∷ []) []
  one_selected f i y at c is = ap (λ b. cond b (i ∷ []) []) (ap (passes f) at ∙ is)

  left_more : (d : List ℕ) (y : Event) (r : List Event) (p : ℕ) → participates p y ≡ true → (a : Next d y r p) → (q : ℕ) → Left d (y ∷ r) q → Left (d ++ a.0 ∷ []) r q
  left_more d y r p part a q left = go (participates q y) refl
    where
      go : (c : Bool) → participates q y ≡ c → Left (d ++ a.0 ∷ []) r q
      go true t =
          let b : Next d y r q = next_of d y r q t left in
          let same : b.0 ≡ a.0 = same_next d y r p q part t a b in
          let is : selected h (participates q) (d ++ a.0 ∷ []) ≡ selected h (participates q) d ++ (a.0 ∷ []) = selected-append h (participates q) d (a.0 ∷ []) ∙ ap (λ z. selected h (participates q) d ++ z) (one_selected (participates q) a.0 y a.3 true t) in
          (b.1, b.2 ∙ ap (λ z. selected h (participates q) d ++ (z ∷ b.1)) same ∙ sym (append_assoc (selected h (participates q) d) (a.0 ∷ []) b.1) ∙ ap (λ z. z ++ b.1) (sym is), b.4)
      go false t =
          let is : selected h (participates q) (d ++ a.0 ∷ []) ≡ selected h (participates q) d = selected-append h (participates q) d (a.0 ∷ []) ∙ ap (λ z. selected h (participates q) d ++ z) (one_selected (participates q) a.0 y a.3 false t) ∙ append-nil (selected h (participates q) d) in
          (left.0, left.1 ∙ ap (λ z. z ++ left.0) (sym is), left.2 ∙ ap (λ (c : Bool). cond c (y ∷ filter (participates q) r) (filter (participates q) r)) t)

  pub record Numbered (other : List Event) : Type 0 where
    pub numbers : List ℕ
    pub there : AllThere h numbers
    pub same : permuted h numbers ≡ other
    pub left : (p : ℕ) → Left numbers [] p

  walk : (r : List Event) (n m : NetworkState) → NetworkLeads e hosts cap n r m → (d : List ℕ) (front other : List Event) → AllThere h d → permuted h d ≡ front → other ≡ front ++ r → ((p : ℕ) → Left d r p) → Numbered other
  walk [] n m leads d front other there same is left = record { numbers = d; there = there; same = same ∙ sym (append-nil front) ∙ sym is; left = left }
  walk (y ∷ r) n m leads d front other there same is left =
      let st : StepEffect e hosts cap n y leads.0 = step_effect e hosts cap n y leads.0 leads.1 in
      let p = st.someone in
      let a : Next d y r p.0 = next_of d y r p.0 p.1 (left p.0) in
      walk r leads.0 m leads.2 (d ++ a.0 ∷ []) (front ++ y ∷ []) other
      (λ i lt. (let c = occurs-append i d (a.0 ∷ []) in at i lt c (slice_get_within h a.0 y a.3) (cases_eq i a.0) (there i)))
      (permuted-append h d (a.0 ∷ []) ∙ ap (λ z. z ++ permuted h (a.0 ∷ [])) same ∙ ap (λ z. front ++ z) (permuted_at h a.0 [] y a.3))
      (is ∙ sym (append_assoc front (y ∷ []) r))
      (λ q. left_more d y r p.0 p.1 a q (left q))
    where
      at : {k : ℕ} (i : ℕ) → 0 < occurs i (d ++ k ∷ []) → occurs i (d ++ k ∷ []) ≡ occurs i d + occurs i (k ∷ []) → k < length h → (i ≡ k) ⊎ (i ≡ k → ⊥) → (0 < occurs i d → i < length h) → i < length h
      at i lt c within (inl e) more = omega arith
      at {k} i lt c within (inr other) more = let f = occurs_other i k [] other in more (omega arith)

  numbered_all : (other : List Event) (last' : NetworkState) → IsNetworkRun e hosts cap other last' → HaveSameEvents h other → Numbered other
  numbered_all other last' run' same = walk other (first_state e) last' run' [] [] other (λ i lt. absurd (omega arith)) refl refl
      (λ p. (mine p, refl, below_all h (participates p) (length h) (omega arith) ∙ ap (filter (participates p)) (take_all (length h) h (omega arith)) ∙ sym (same p)))

  pub same_rearrange : (other : List Event) (last' : NetworkState) → IsNetworkRun e hosts cap other last' → HaveSameEvents h other → (order : List ℕ) × IsRearrangedAs e hosts cap h other order
  same_rearrange other last' run' same = (by.numbers, record { same = by.same; kept = record { whole = whole; kept = kept; last = last'; run = subst (λ (z : List Event). IsNetworkRun e hosts cap z last') (sym by.same) run' } })
    where
      by : Numbered other
      by = numbered_all other last' run' same

      all_mine : (p : ℕ) → mine p ≡ selected h (participates p) by.numbers
      all_mine p =
          let l : Left by.numbers [] p = by.left p in
          let none : l.0 ≡ [] = nothing_left h l.0 (left_there by.numbers p l.0 l.1) l.2 in
          l.1 ∙ ap (λ z. selected h (participates p) by.numbers ++ z) none ∙ append-nil (selected h (participates p) by.numbers)

      -- a number of process p is among these as often as among all
      count_same : (p i : ℕ) → passes (participates p) (slice_get h i) ≡ true → occurs i by.numbers ≡ occurs i (below (length h))
      count_same p i t = sym (selected_same h (participates p) by.numbers i t) ∙ ap (occurs i) (sym (all_mine p)) ∙ selected_same h (participates p) (below (length h)) i t

      once : (i : ℕ) → i < length h → occurs i by.numbers ≡ 1
      once i lt =
          let x = event_at h i lt in
          let r : Reached e hosts cap h last run i x.0 = reached e hosts cap h last run i x.0 x.1 in
          let st : StepEffect e hosts cap r.state x.0 r.next = step_effect e hosts cap r.state x.0 r.next r.step in
          let p = st.someone in
          count_same p.0 i (ap (passes (participates p.0)) x.1 ∙ p.1) ∙ go (below_occurs (length h) i)
        where
          go : ((i < length h) × (occurs i (below (length h)) ≡ 1)) ⊎ ((length h ≤ i) × (occurs i (below (length h)) ≡ 0)) → occurs i (below (length h)) ≡ 1
          go (inl (l, o)) = o
          go (inr (l, o)) = absurd (omega arith)

      whole : IsPermutationBelow (length h) by.numbers
      whole = order_from (length h) by.numbers once by.there

      kept : (p i j : ℕ) → i < j → IsEventOf h p i → IsEventOf h p j → IsBefore by.numbers i j
      kept p i j lt a b =
          let ti : passes (participates p) (slice_get h i) ≡ true = ap (passes (participates p)) a.there ∙ a.part in
          let tj : passes (participates p) (slice_get h j) ≡ true = ap (passes (participates p)) b.there ∙ b.part in
          let c : occurs j (mine p) ≡ occurs j by.numbers = ap (occurs j) (all_mine p) ∙ selected_same h (participates p) by.numbers j tj in
          let o = once j (slice_get_within h j b.event b.there) in
          let s = member_at j (mine p) (omega arith) in
          let front : 0 < occurs i s.0 = below_prefix h (participates p) (length h) s.0 j s.1 s.2 i lt ti in
          let k = selected_cut h (participates p) by.numbers s.0 j s.1 (sym (all_mine p) ∙ s.2) in
          let fewer = selected_fewer h (participates p) k.0 i in
          let same_front : occurs i (selected h (participates p) k.0) ≡ occurs i s.0 = ap (occurs i) k.3 in
          before_from by.numbers k.0 k.1 i j k.2 (omega arith)
