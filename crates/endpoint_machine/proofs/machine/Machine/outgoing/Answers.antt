use Rattle.endpoint_machine.proofs.Scopes.{knows}
use Rattle.endpoint_machine.proofs.machine.Machine.outgoing.Goals as goal

pub load_at-requires-clause-known : goal.load_at-requires-clause-known
load_at-requires-clause-known c = let s = c.place-place.ensures.stands in knows _ s.id _ _ _ s.bound s.found
