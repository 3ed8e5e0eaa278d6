use Rattle.std.proofs.Common.{ℕ, ◌≡◌, ◌<◌, ◌||◌, false, vec_len, slice_index_or, drop}
use Rattle.event_orders.specs.EventKinds.{is_in}
use Rattle.causal_order.proofs.marking.mark_all.Given as goal

abbrev pub invariant-loop-place : goal.invariant-loop-place
invariant-loop-place l = record {
  len : vec_len l.marks ≡ vec_len l.initial.marks;
  marked : (i : ℕ) → i < vec_len l.initial.marks → (slice_index_or l.marks.items i false || is_in i (drop l.place-index l.places)) ≡ (slice_index_or l.initial.marks.items i false || is_in i l.places);
}
