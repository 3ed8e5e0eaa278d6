-- A rearrangement has, process by process, the same events.
use Rattle.std.proofs.Common.{◌≡◌, ℕ, suc, ◌<◌, ◌≤◌, ◌+◌, Bool, true, false, cond, List, [], ◌∷◌, ◌++◌, length, filter, refl, sym, ap, ◌∙◌, Option, Some, None, arith, append_assoc, take_all, inl, inr, ◌⊎◌}
use Rattle.std.specs.Prelude.{slice_get}
use Rattle.std.proofs.lemmas.Bool.{true≢false, cases_order}
use Rattle.chor_base.specs.declared.event.Event.{Event}
use Rattle.chor_base.specs.Meaning.{Hosts}
use Rattle.endpoint_code.specs.declared.endpoints.Endpoints.{Endpoints}
use Rattle.event_orders.specs.EventKinds.{participates}
use Rattle.event_orders.specs.Orders.{permuted}
use Rattle.event_orders.specs.HappensBefore.{IsEventOf, IsRearrangement}
use Rattle.event_orders.specs.SameEvents.{HaveSameEvents}
use Rattle.event_orders.proofs.Numbers.{listed_occurs, occurs_listed, occurs, occurs-append, occurs_self, order_has, order_once, order_below, before_in}
use Rattle.event_orders.proofs.Listed.{IsListed, IsAscending, same_ascending}
use Rattle.event_orders.proofs.Selected.{passes, selected, selected_fewer, selected_same, selected_passes, selected_filter, below, below_occurs, below_all, below_ascends}

pub rearranged_same : (e : Endpoints) (hosts : Hosts) (cap : Option ℕ) (h : List Event) (order : List ℕ) → IsRearrangement e hosts cap h order → HaveSameEvents h (permuted h order)
rearranged_same e hosts cap h order re p =
    sym (selected_filter h (participates p) order (λ i lt. order_below (length h) order re.whole i lt))
    ∙ ap (permuted h) (same_ascending (selected h (participates p) order) (selected h (participates p) (below (length h))) (ascends order [] refl) (below_ascends h (participates p) (length h)) to back)
    ∙ below_all h (participates p) (length h) (omega arith)
    ∙ ap (filter (participates p)) (take_all (length h) h (omega arith))
  where
    passed_part : (i : ℕ) → passes (participates p) (slice_get h i) ≡ true → IsEventOf h p i
    passed_part i t = go (slice_get h i) refl t
      where
        go : (o : Option Event) → slice_get h i ≡ o → passes (participates p) o ≡ true → IsEventOf h p i
        go None k u = absurd (true≢false (sym u))
        go (Some x) k u = record { event = x; there = k; part = u }

    ascends : (b a : List ℕ) → order ≡ a ++ b → IsAscending (selected h (participates p) b)
    ascends [] a is = tt
    ascends (x ∷ b) a is = go (passes (participates p) (slice_get h x)) refl (ascends b (a ++ x ∷ []) (is ∙ sym (append_assoc a (x ∷ []) b)))
      where
        above : passes (participates p) (slice_get h x) ≡ true → (i : ℕ) → IsListed i (selected h (participates p) b) → x < i
        above t i l = at (cases_order x i)
          where
            in_b : 0 < occurs i b
            in_b = let c = listed_occurs i (selected h (participates p) b) l in let d = selected_fewer h (participates p) b i in omega arith

            whole : occurs i order ≡ occurs i a + occurs i (x ∷ b)
            whole = ap (occurs i) is ∙ occurs-append i a (x ∷ b)

            at : (x ≡ i) ⊎ ((x < i) ⊎ (i < x)) → x < i
            at (inl same) = let w = whole in let o = order_once (length h) order re.whole i in let c = in_b in let s : occurs i (x ∷ b) ≡ suc (occurs i b) = ap (λ z. occurs i (z ∷ b)) same ∙ occurs_self i b in absurd (omega arith)
            at (inr (inl lt)) = lt
            at (inr (inr lt)) =
                let f : 0 < occurs i a = before_in (length h) order re.whole a b i x is (re.kept p i x lt (passed_part i (selected_passes h (participates p) b i l)) (passed_part x t)) in
                let w = whole in
                let o = order_once (length h) order re.whole i in
                let c = in_b in
                absurd (omega arith)

        go : (c : Bool) → passes (participates p) (slice_get h x) ≡ c → IsAscending (selected h (participates p) b) → IsAscending (cond c (x ∷ selected h (participates p) b) (selected h (participates p) b))
        go true t more = (above t, more)
        go false t more = more

    within : (i : ℕ) → ((i < length h) × (occurs i (below (length h)) ≡ 1)) ⊎ ((length h ≤ i) × (occurs i (below (length h)) ≡ 0)) → i < length h → 0 < occurs i (below (length h))
    within i (inl (l, o)) lt = omega arith
    within i (inr (l, o)) lt = absurd (omega arith)

    only : (i : ℕ) → ((i < length h) × (occurs i (below (length h)) ≡ 1)) ⊎ ((length h ≤ i) × (occurs i (below (length h)) ≡ 0)) → 0 < occurs i (below (length h)) → i < length h
    only i (inl (l, o)) lt = l
    only i (inr (l, o)) lt = absurd (omega arith)

    to : (i : ℕ) → IsListed i (selected h (participates p) order) → IsListed i (selected h (participates p) (below (length h)))
    to i l =
        let t = selected_passes h (participates p) order i l in
        let c = listed_occurs i (selected h (participates p) order) l in
        let d = selected_fewer h (participates p) order i in
        let f = within i (below_occurs (length h) i) (order_below (length h) order re.whole i (omega arith)) in
        occurs_listed i (selected h (participates p) (below (length h))) (let g = selected_same h (participates p) (below (length h)) i t in omega arith)

    back : (i : ℕ) → IsListed i (selected h (participates p) (below (length h))) → IsListed i (selected h (participates p) order)
    back i l =
        let t = selected_passes h (participates p) (below (length h)) i l in
        let c = listed_occurs i (selected h (participates p) (below (length h))) l in
        let d = selected_fewer h (participates p) (below (length h)) i in
        let lt : i < length h = only i (below_occurs (length h) i) (omega arith) in
        let o = order_has (length h) order re.whole i lt in
        occurs_listed i (selected h (participates p) order) (let g = selected_same h (participates p) order i t in omega arith)
