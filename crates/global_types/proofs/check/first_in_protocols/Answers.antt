use Rattle.global_types.specs.Faults.{protocol_faults}
use Rattle.chor_base.proofs.Faults.{turn_item}
use Rattle.global_types.proofs.check.first_in_protocols.Goals as goal

pub loop-protocol-preserved : goal.loop-protocol-preserved
loop-protocol-preserved c = turn_item (protocol_faults c.args.protocols.now) _ _ _ c.args.protocols.now c.loop-protocol.protocol-index c.protocol-item.result _ c.loop-protocol-test.true c.protocol-item.is c.first_in_protocol.ensures c.earlier-first.ensures c.loop-protocol.invariant
