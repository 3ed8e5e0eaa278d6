use Rattle.std.proofs.Common.{◌++◌, ap, sym, ◌∙◌, option_to_list}
use Rattle.std.proofs.lemmas.List.Filters.{dedup_is}
use Rattle.std.proofs.lemmas.List.Kept.{Contains-dedup_nat, Contains-from_dedup}
use Rattle.std.proofs.lemmas.List.Sorted.{Contains-permutation, IsPermutation-sym}
use Rattle.std.proofs.lemmas.Map.Keys.{IsStrictlyIncreasing-dedup}
use Rattle.chor_base.specs.Events.{actors_of}
use Rattle.causal_order.specs.Found.{last_events}
use Rattle.causal_order.proofs.causes.causes_of.Goals as goal

pub returns-clause-ascends : goal.returns-clause-ascends
returns-clause-ascends c = rw (c.from_vec.ensures ∙ dedup_is _ _ _ c.dedup.ensures.filtered) (IsStrictlyIncreasing-dedup _ c.sort_unstable.ensures.sorted)

pub returns-clause-holds : goal.returns-clause-holds
returns-clause-holds c =
    let is = c.from_vec.ensures ∙ dedup_is _ _ _ c.dedup.ensures.filtered in
    let moved = c.sort_unstable.ensures.permutation in
    let last = last_events c.args.scan.now (actors_of c.args.event.now) in
    let from = c.in_ok-push_some.ensures ∙ ap (λ z. z ++ option_to_list c.other_cause.result) (c.in_ok-push_last.ensures ∙ ap (λ z. z ++ last) c.in_ok-places.ensures.items) ∙ ap (λ o. last ++ option_to_list o) c.other_cause.ensures in
    λ i. (
      (λ h. rw from at (Contains-permutation _ _ i (IsPermutation-sym _ _ moved) (Contains-from_dedup _ _ i (rw is at h)))),
      (λ h. rw is (Contains-dedup_nat _ i (Contains-permutation _ _ i moved (rw (sym from) at h)))),
    )
