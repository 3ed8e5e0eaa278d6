use Rattle.chor_tree.specs.Names.{protocol_faults}
use Rattle.chor_base.proofs.Faults.{turn_from}
use Rattle.name_resolution.proofs.declared.Declared.first_in_protocols.Goals as goal

pub loop-protocol-preserved : goal.loop-protocol-preserved
loop-protocol-preserved c = turn_from (protocol_faults c.args.self.now.file.now) _ _ _ _ (c.args.self.now.file.now.protocols) c.loop-protocol.protocol-index c.protocol-item.result _ c.as_slice-protocol-items.ensures c.loop-protocol-test.true c.protocol-item.is (c.in_ok-found.ensures) c.earlier-first.ensures c.loop-protocol.invariant
