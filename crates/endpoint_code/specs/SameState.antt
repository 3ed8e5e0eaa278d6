-- When two states of a network are the same.
use Rattle.std.specs.Prelude.{◌≡◌}
use Rattle.chor_base.specs.Events.{Triple}
use Rattle.endpoint_code.specs.Network.{NetworkState, queue_of}

-- The same machines, the same queue on each triple and the same next session. The tables of queues may list them in
-- different orders, as two sends on two triples do that are made in one order and in the other
pub record IsSameState (n m : NetworkState) : Type 0 where
  pub machines : n.machines ≡ m.machines
  pub queues : (t : Triple) → queue_of n t ≡ queue_of m t
  pub sid : n.sid ≡ m.sid
