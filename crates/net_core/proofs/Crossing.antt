-- A network may go from one thread to another.
use denote.Param.Send.{IsSend, sendable, shr_send}
use Rattle.std.proofs.Crossing.{Vec-send}
use denote.Struct.Field.{shr_ref_field}
use Rattle.std.specs.contracts.vec.Vec as vec
use Rattle.std.specs.contracts.alloc.Global as heap
use Rattle.std.specs.contracts.impls.GlobalAllocator.TheImpl.{ghosts}
use denote.Param.SendFields.{declared_send, as_row_send}
use Rattle.endpoint_machine.specs.contracts.machine.Machine as machine
use Rattle.endpoint_code.specs.contracts.endpoints.Endpoints as endpoints
use Rattle.net_core.specs.contracts.network.Network as network
use Rattle.net_core.specs.contracts.network.Network.TheInside as inside
use Rattle.endpoint_code.proofs.Crossing.{endpoints_sync}
use Rattle.endpoint_machine.proofs.Crossing.{machine_send}
use Rattle.post_office.proofs.Crossing.{ledger_send}

machines_send : IsSend (vec.the_row machine.the_row heap.the_row ghosts)
machines_send = Vec-send machine.the_row machine_send

inside_send : (κ : _) → IsSend (inside.the_row κ)
inside_send κ = declared_send (inside.the_type κ) (
  search sendable depth 20,
  (
    as_row_send (shr_ref_field κ endpoints.the_row tt) (shr_send κ.mir κ.lft endpoints.the_row endpoints_sync),
    (
      as_row_send (vec.the_field machine.the_row heap.the_row ghosts) machines_send,
      (ledger_send, tt),
    ),
  ),
)

pub network_send : (κ : _) → IsSend (network.the_row κ)
network_send κ = search (sendable, inside_send) depth 20
