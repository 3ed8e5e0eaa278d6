-- A ledger may go from one thread to another.
use denote.Param.Send.{IsSend, sendable}
use Rattle.std.proofs.Crossing.{crosses}
use Rattle.post_office.specs.contracts.queues.Lane as lane
use Rattle.post_office.specs.contracts.queues.Queues as queues
use Rattle.post_office.specs.contracts.ledger.Ledger as ledger
use Rattle.chor_base.proofs.Crossing.{entry_send}

lane_send : IsSend lane.the_row
lane_send = search (sendable, crosses) depth 40

queues_send : IsSend queues.the_row
queues_send = search (sendable, crosses, lane_send) depth 40

pub ledger_send : IsSend ledger.the_row
ledger_send = search (sendable, crosses, queues_send, entry_send) depth 40
