use Rattle.std.proofs.Common.{ℕ, ◌≡◌, List, Some, slice_get, length}
use Rattle.causal_order.specs.Orders.{AreCausesOf}
use Rattle.causal_order.specs.Scanned.{HasScanned}
use Rattle.causal_order.proofs.ordering.order.Given as goal

abbrev pub invariant-loop-place : goal.invariant-loop-place
invariant-loop-place l = record {
  scan : HasScanned l.events l.place l.scan;
  whole : length l.causes ≡ l.place;
  each : (j : ℕ) (list : List ℕ) → slice_get l.causes j ≡ Some list → AreCausesOf l.events l.capacity j list;
}
