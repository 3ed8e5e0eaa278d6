use Rattle.endpoint_machine.proofs.Scopes.{knows}
use Rattle.endpoint_machine.proofs.machine.Machine.head.Goals as goal

pub head_at-requires-clause-known : goal.head_at-requires-clause-known
head_at-requires-clause-known c = let s = c.place-place.ensures.stands in knows _ s.id _ _ _ s.bound s.found
