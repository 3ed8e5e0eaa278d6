-- What contracts see of a process.
use Rattle.std.specs.Prelude.{ℕ, ◌<◌, length, Option, Some}
use Rattle.endpoint_code.specs.declared.code.CodeNode.{CodeNode}
use Rattle.endpoint_code.specs.declared.code.CodeNode.TheVariants.{Call}
use Rattle.endpoint_code.specs.declared.endpoints.Endpoints.{Endpoints}
use Rattle.endpoint_code.specs.Network.{Machine, node_at}

-- how many more variables and sessions a process can have without taking memory, and how many sessions beyond a call
pub record Room : Type 0 where
  pub variables : ℕ
  pub sessions : ℕ
  pub beyond : ℕ

-- a process's number, where it stands with its variables and sessions, and its room
pub record MachineView : Type 0 where
  pub number : ℕ
  pub machine : Machine
  pub room : Room

-- how many sessions a call passes
abbrev pub passes : Option CodeNode → ℕ
passes (Some (Call f p ss)) = length ss
passes _ = 0

-- There is room for the next event of a process
pub record IsReserved (e : Endpoints) (v : MachineView) : Type 0 where
  pub variables : 0 < v.room.variables
  pub sessions : 0 < v.room.sessions
  pub beyond : passes (node_at e v.machine.at) < v.room.beyond
