-- A machine may go from one thread to another.
use denote.Param.Send.{IsSend, sendable}
use Rattle.std.proofs.Crossing.{crosses}
use Rattle.endpoint_machine.specs.contracts.machine.Machine as machine
use Rattle.endpoint_machine.specs.contracts.sessions.Bindings as bindings
use Rattle.chor_base.proofs.Crossing.{vars_send}

bindings_send : IsSend bindings.the_row
bindings_send = search (sendable, crosses) depth 40

pub machine_send : IsSend machine.the_row
machine_send = search (sendable, vars_send, bindings_send) depth 40
