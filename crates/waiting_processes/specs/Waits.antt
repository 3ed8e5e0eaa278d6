-- What processes wait for, and what their events change of it (this project's own).
use Rattle.std.specs.Prelude.{ℕ, Option, Some, None, slice_get}
use Rattle.endpoint_code.specs.declared.endpoints.Endpoints.{Endpoints}
use Rattle.endpoint_code.specs.Network.{Machine, NetworkState}
use Rattle.endpoint_machine.specs.declared.head.Head.{Head}
use Rattle.endpoint_machine.specs.declared.head.Head.TheVariants as head
use Rattle.endpoint_machine.specs.Heads.{head_of}
use Rattle.waiting_processes.specs.declared.waits.Awaited.{Awaited}
use Rattle.waiting_processes.specs.declared.waits.Awaited.TheVariants.{Queue, Channel}

-- a sender waits for its queue only where the queues have a capacity
abbrev pub awaits_room : Option ℕ → Awaited → Option Awaited
awaits_room None w = None
awaits_room (Some c) w = Some w

-- what a process may wait for at a head: a load on the queue that it takes from, partners on the channel that it joins, or
-- under a capacity room on the queue that it sends on
abbrev pub awaited_by : Option ℕ → Head → Option Awaited
awaited_by cap (head.Take s a b) = Some (Queue s a b)
awaited_by cap (head.Join c r) = Some (Channel c)
awaited_by cap (head.Out s a b) = awaits_room cap (Queue s a b)
awaited_by cap head.Local = None
awaited_by cap head.Ended = None

-- what others may wait for that an event at a head changes: the queue that it sends on or takes from, or who joins a channel
abbrev pub touched_by : Head → Option Awaited
touched_by (head.Take s a b) = Some (Queue s a b)
touched_by (head.Join c r) = Some (Channel c)
touched_by (head.Out s a b) = Some (Queue s a b)
touched_by head.Local = None
touched_by head.Ended = None

abbrev pub awaited_of : Option ℕ → Option Head → Option Awaited
awaited_of cap None = None
awaited_of cap (Some h) = awaited_by cap h

abbrev pub awaited_in : Endpoints → Option ℕ → Option Machine → Option Awaited
awaited_in e cap None = None
awaited_in e cap (Some m) = awaited_of cap (head_of e m)

-- what process q may wait for where it stands, under a capacity
abbrev pub awaited_at : Endpoints → Option ℕ → NetworkState → ℕ → Option Awaited
awaited_at e cap n q = awaited_in e cap (slice_get n.machines q)
