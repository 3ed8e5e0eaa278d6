-- Processes of a network.
use Rattle.std.specs.Prelude.{ℕ, ◌≡◌, ◌&&◌, Bool, List, map, Some, slice_get, nat_lt}
use Rattle.endpoint_code.specs.declared.endpoints.Endpoints.{Endpoints}
use Rattle.endpoint_code.specs.Network.{Machine, node_at}
use Rattle.endpoint_machine.specs.Views.{MachineView, passes}

-- where a process stands, without its number and its room
abbrev pub standing_of : MachineView → Machine
standing_of m = m.machine

abbrev pub number_of : MachineView → ℕ
number_of m = m.number

-- each process's number is its place
abbrev pub AreCounted : List MachineView → Type 0
AreCounted ms = (p n : ℕ) → slice_get (map number_of ms) p ≡ Some n → n ≡ p

-- a process has room for its next event
abbrev pub is_reserved : Endpoints → MachineView → Bool
is_reserved e m = nat_lt 0 m.room.variables && (nat_lt 0 m.room.sessions && nat_lt (passes (node_at e m.machine.at)) m.room.beyond)
