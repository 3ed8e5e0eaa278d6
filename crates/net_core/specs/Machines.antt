-- What one process of a network does by itself.
use Rattle.std.specs.Prelude.{ℕ, ◌≡◌, Bool, true, false, Option, Some, None, slice_get, slice_set, nat_lt, ℤ, is_some}
use Rattle.chor_base.specs.declared.value.Load.{Load}
use Rattle.chor_base.specs.declared.event.Event.{Event}
use Rattle.chor_base.specs.Meaning.{Hosts}
use Rattle.endpoint_code.specs.declared.code.CodeNode.{CodeNode}
use Rattle.endpoint_code.specs.declared.code.CodeNode.TheVariants.{Join}
use Rattle.endpoint_code.specs.declared.endpoints.Endpoints.{Endpoints}
use Rattle.endpoint_code.specs.Network.{Machine, NetworkState, Makes, machine_makes, MachineAnswers, loads_for}
use Rattle.endpoint_machine.specs.declared.head.Head.{Head}
use Rattle.endpoint_machine.specs.declared.head.Head.TheVariants as head
use Rattle.endpoint_machine.specs.Acts.{taking_of}
use Rattle.endpoint_machine.specs.Views.{MachineView}
use Rattle.post_office.specs.Lanes.{QueuesView, loads_in, room_on}

-- ---- room

-- its queue has room for what a process sends
abbrev pub has_queue_room : QueuesView → Option Head → Bool
has_queue_room q (Some (head.Out s a b)) = nat_lt 0 (room_on q (s, a, b))
has_queue_room q _ = true

-- ---- acting

abbrev pub is_join : CodeNode → Bool
is_join (Join c r k next) = true
is_join _ = false

-- the state after process p has become m and the queues q
abbrev pub with_process : NetworkState → ℕ → MachineView → QueuesView → NetworkState
with_process n p m q = record n { machines = slice_set n.machines p m.machine; queues = loads_in q.lanes }

-- a process makes this event where a host function answers v, in each network with these queues, where they have no capacity
abbrev pub MovesWith : Endpoints → ℤ → QueuesView → MachineView → Event → QueuesView → MachineView → Type 0
MovesWith e v q m x r k = (n : NetworkState) → n.queues ≡ loads_in q.lanes → machine_makes e None n m.number v (Some m.machine) ≡ Some (Makes x (with_process n m.number k r))

-- a process makes this event by an answer that it may get, in each network with these queues, where they have no capacity
pub record ActsWith (e : Endpoints) (hosts : Hosts) (q : QueuesView) (m : MachineView) (x : Event) (r : QueuesView) (k : MachineView) : Type 0 where
  pub answer : ℤ
  pub allowed : MachineAnswers hosts e (Some m.machine) answer
  pub moves : MovesWith e answer q m x r k

abbrev pub fits_first : Endpoints → Machine → Option Load → Bool
fits_first e m None = false
fits_first e m (Some l) = is_some (taking_of e m l)

-- a process with this head neither joins nor waits nor has ended
abbrev pub can_act : Endpoints → QueuesView → MachineView → Head → Bool
can_act e q m (head.Out s a b) = true
can_act e q m (head.Take s a b) = fits_first e m.machine (slice_get (loads_for (loads_in q.lanes) (s, a, b)) 0)
can_act e q m head.Local = true
can_act e q m _ = false
