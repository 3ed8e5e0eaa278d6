-- The run that workers share may go from one thread to another, and several threads may use a bell.
use denote.Param.Send.{IsSend, IsSync, sendable, shr_send}
use denote.Struct.Field.{shr_ref_field}
use denote.Param.SendFields.{declared_send, as_row_send}
use Rattle.std.proofs.Crossing.{crosses}
use Rattle.std.specs.contracts.vec.Vec as vec
use Rattle.std.specs.contracts.alloc.Global as heap
use Rattle.endpoint_code.specs.contracts.endpoints.Endpoints as endpoints
use Rattle.endpoint_code.proofs.Crossing.{endpoints_sync}
use Rattle.endpoint_machine.specs.contracts.machine.Machine as machine
use Rattle.post_office.specs.contracts.office.Office as office
use Rattle.post_office.specs.contracts.office.Office.TheInside as office_inside
use Rattle.post_office.proofs.Crossing.{ledger_send}
use Rattle.workers.specs.contracts.bells.Bell as bell
use Rattle.workers.specs.contracts.run.SharedRun as shared

office_inside_send : (κ : _) → IsSend (office_inside.the_row κ)
office_inside_send κ = declared_send (office_inside.the_type κ) (
  as_row_send (shr_ref_field κ endpoints.the_row tt) (shr_send κ.mir κ.lft endpoints.the_row endpoints_sync),
  (
    search (sendable, crosses) depth 20,
    (ledger_send, (search (sendable, crosses) depth 20, tt)),
  ),
)

office_send : (κ : _) → IsSend (office.the_row κ)
office_send κ = search (sendable, office_inside_send) depth 20

pub shared_send : (κ : _) → IsSend (shared.the_row κ)
shared_send κ = search (sendable, crosses, office_send) depth 40

pub bell_sync : IsSync bell.the_row
bell_sync = search (sendable, crosses) depth 40
