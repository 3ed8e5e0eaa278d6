use Rattle.chor_tree.specs.Names.{channel_faults}
use Rattle.chor_base.proofs.Faults.{turn_from}
use Rattle.name_resolution.proofs.declared.Declared.first_in_channels.Goals as goal

pub loop-service-preserved : goal.loop-service-preserved
loop-service-preserved c = turn_from (channel_faults c.args.self.now.file.now) _ _ _ _ (c.args.self.now.file.now.services) c.loop-service.service-index c.service-item.result _ c.as_slice-service-items.ensures c.loop-service-test.true c.service-item.is (c.first_in_channel.ensures) c.earlier-first.ensures c.loop-service.invariant
