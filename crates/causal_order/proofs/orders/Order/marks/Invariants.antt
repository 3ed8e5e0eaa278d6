use Rattle.std.proofs.Common.{ℕ, ◌≡◌, ◌<◌, ◌≤◌, ◌+◌, ◌⊎◌, true, false, List, Some, slice_get, slice_index_or, vec_len, Contains}
use Rattle.causal_order.specs.Orders.{IsAncestor}
use Rattle.causal_order.proofs.orders.Order.marks.Given as goal

abbrev pub invariant-loop-back : goal.invariant-loop-back
invariant-loop-back l = record {
  len : vec_len l.marks ≡ l.count;
  own : slice_index_or l.marks.items l.fn.event false ≡ true;
  sound : (i : ℕ) → i < l.count → slice_index_or l.marks.items i false ≡ true → (i ≡ l.fn.event) ⊎ IsAncestor l.fn.self.causes i l.fn.event;
  done : (k : ℕ) (list : List ℕ) (i : ℕ) → l.count ≤ k + l.back → slice_index_or l.marks.items k false ≡ true → slice_get l.fn.self.causes k ≡ Some list → Contains list i → slice_index_or l.marks.items i false ≡ true;
}
