use denote.Param.Send.{sendable}
use Rattle.endpoint_code.proofs.Crossing.{endpoints_sync}
use Rattle.workers.proofs.Crossing.{shared_send}
use Rattle.workers.proofs.running.run_workers.Goals as goal

pub work-requires-send-T : goal.work-requires-send-T
work-requires-send-T g c κs within = search (sendable, shared_send) depth 20

pub work-requires-sync-P : goal.work-requires-sync-P
work-requires-sync-P g c κs within = search (sendable, endpoints_sync) depth 20
