-- The least code above two is their join.
use Rattle.std.proofs.Common.{List, [], ◌∷◌}
use Rattle.endpoint_code.specs.Trees.{CodeTree}
use Rattle.endpoint_code.specs.Above.{IsAbove}
use Rattle.endpoint_code.specs.Labels.{HasDistinctLabels, IsReordered}
use Rattle.endpoint_code.specs.LeastAbove.{IsLeastAbove}
use Rattle.endpoint_code.proofs.AboveOrder.{above_self, above_antisym}
use Rattle.branch_merge.proofs.Bounds.{least_of_two, two_of_least}

pub join_least : (a b q r : CodeTree) → IsLeastAbove (a ∷ b ∷ []) q → HasDistinctLabels r → IsAbove r a → IsAbove r b → IsAbove r q
join_least a b q r l d f g = (two_of_least l).least r (record { distinct = d; left = f; right = g })

pub join_unique : (codes : List CodeTree) (q p : CodeTree) → IsLeastAbove codes q → IsLeastAbove codes p → IsReordered q p
join_unique codes q p l k = above_antisym q l.distinct k.distinct (k.least q l.distinct l.above) (l.least p k.distinct k.above)

pub join_turned : (a b q : CodeTree) → IsLeastAbove (a ∷ b ∷ []) q → IsLeastAbove (b ∷ a ∷ []) q
join_turned a b q l =
    let k = two_of_least l in
    least_of_two (record {
      bound = record { distinct = k.bound.distinct; left = k.bound.right; right = k.bound.left };
      least = λ r n. k.least r (record { distinct = n.distinct; left = n.right; right = n.left });
    })

pub join_above : (a b : CodeTree) → HasDistinctLabels a → IsAbove a b → IsLeastAbove (a ∷ b ∷ []) a
join_above a b d h = least_of_two (record { bound = record { distinct = d; left = above_self a; right = h }; least = λ r n. n.left })

pub join_self : (a : CodeTree) → HasDistinctLabels a → IsLeastAbove (a ∷ a ∷ []) a
join_self a d = join_above a a d (above_self a)
