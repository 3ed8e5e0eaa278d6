use Rattle.std.proofs.Common.{◌≡◌, take}
use Rattle.chor_base.proofs.event.List+Event.copy.Given as goal

abbrev pub invariant-loop-event : goal.invariant-loop-event
invariant-loop-event l = l.list ≡ take l.event-index l.event-items
