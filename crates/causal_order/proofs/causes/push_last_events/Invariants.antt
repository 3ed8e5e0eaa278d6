use Rattle.std.proofs.Common.{◌≡◌, ◌++◌, map, drop}
use Rattle.causal_order.specs.Found.{last_events}
use Rattle.causal_order.proofs.causes.push_last_events.Given as goal

abbrev pub invariant-loop-part : goal.invariant-loop-part
invariant-loop-part l = l.places.items ++ last_events l.fn.scan (map (λ q. q.1) (drop l.part-index l.parts)) ≡ l.initial.places.items ++ last_events l.fn.scan (map (λ q. q.1) l.parts)
