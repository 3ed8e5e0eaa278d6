-- The least code above some that ask only known host functions asks only known ones.
use Rattle.std.proofs.Common.{Bool, List, ◌∷◌}
use Rattle.std.specs.List.{AllByRecursion}
use Rattle.chor_base.specs.declared.names.NameId.{NameId}
use Rattle.endpoint_code.specs.Labels.{HasDistinctLabels, ArmIsIn, here, there, IsReordered, does, offers, tests, calls, ends, AreReordered, no_arm, one_arm}
use Rattle.endpoint_code.specs.LeastAbove.{IsLeastAbove}
use Rattle.endpoint_code.specs.Trees.{CodeTree, Arms}
use Rattle.merged_codes.specs.Merges.{IsMerge, both_do, both_offer, both_test, both_call, both_end, AreMergedArms, left_over, alone, in_both, IsMergeOf, no_other, one_other}
use Rattle.merged_codes.proofs.Least.{least_made}
use Rattle.endpoint_code.specs.Asked.{AsksTree, AsksArms}

module _ (known : NameId → Bool) where
  -- ---- arms

  asks_in : {l : NameId} {c : CodeTree} {others arms : Arms} → ArmIsIn l c others arms → AsksArms known arms → AsksTree known c × AsksArms known others
  asks_in here s = s
  asks_in (there i) s = let w = asks_in i s.1 in (w.0, (s.0, w.1))

  -- ---- merging

  mutual
    merge_asks : {c d m : CodeTree} → IsMerge c d m → AsksTree known c → AsksTree known d → AsksTree known m
    merge_asks (both_do m) s t = (s.0, merge_asks m s.1 t.1)
    merge_asks (both_offer m) s t = arms_ask m s t
    merge_asks (both_test m k) s t = (merge_asks m s.0 t.0, merge_asks k s.1 t.1)
    merge_asks both_call s t = s
    merge_asks both_end s t = s

    arms_ask : {cs ds ms : Arms} → AreMergedArms cs ds ms → AsksArms known cs → AsksArms known ds → AsksArms known ms
    arms_ask left_over s t = t
    arms_ask (alone l r) s t = (s.0, arms_ask r s.1 t)
    arms_ask (in_both i m r) s t = let w = asks_in i t in (merge_asks m s.0 w.0, arms_ask r s.1 w.1)

  -- ---- the order of labels

  mutual
    order_asks : {q p : CodeTree} → IsReordered q p → AsksTree known p → AsksTree known q
    order_asks (does r) s = (s.0, order_asks r s.1)
    order_asks (offers r) s = order_arms r s
    order_asks (tests r k) s = (order_asks r s.0, order_asks k s.1)
    order_asks calls s = s
    order_asks ends s = s

    order_arms : {qs ps : Arms} → AreReordered qs ps → AsksArms known ps → AsksArms known qs
    order_arms no_arm s = tt
    order_arms (one_arm i r rs) s = let w = asks_in i s in (order_asks r w.0, order_arms rs w.1)

  -- ---- the least above some

  merged_asks : (c : CodeTree) (cs : List CodeTree) (m : CodeTree) → IsMergeOf c cs m → AsksTree known c → AllByRecursion (AsksTree known) cs → AsksTree known m
  merged_asks c cs m no_other w ws = w
  merged_asks c cs m (one_other {k = k} {cs = rest} b r) w ws = merged_asks k rest m r (merge_asks b w ws.0) ws.1

  pub least_asks : (c : CodeTree) (cs : List CodeTree) (q : CodeTree) → AllByRecursion HasDistinctLabels (c ∷ cs) → AllByRecursion (AsksTree known) (c ∷ cs) → IsLeastAbove (c ∷ cs) q → AsksTree known q
  least_asks c cs q d w l =
      let made = least_made c cs q d l in
      order_asks made.same (merged_asks c cs made.code made.merge w.0 w.1)
