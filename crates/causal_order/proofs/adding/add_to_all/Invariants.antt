use Rattle.std.proofs.Common.{ℕ, ◌≡◌, map, drop, Some, if◌then◌else◌}
use Rattle.event_orders.specs.EventKinds.{is_in}
use Rattle.causal_order.specs.Scan.{last_event_of}
use Rattle.causal_order.proofs.adding.add_to_all.Given as goal

abbrev pub invariant-loop-part : goal.invariant-loop-part
invariant-loop-part l = record {
  last : (p : ℕ) → (if is_in p (map (λ q. q.1) (drop l.part-index l.parts)) then Some l.place else last_event_of l.scan p) ≡ (if is_in p (map (λ q. q.1) l.parts) then Some l.place else last_event_of l.initial.scan p);
  others : l.scan ≡ record l.initial.scan { last = l.scan.last };
}
