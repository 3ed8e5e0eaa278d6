use Rattle.std.proofs.Common.{arith}
use Rattle.std.proofs.lemmas.Grind.{common_steps}
use Rattle.chor_base.proofs.Faults.{turn_from}
use Rattle.endpoint_names.specs.Faults.{channel_faults}
use Rattle.endpoint_names.proofs.declared.Declared.first_in_channels.Goals as goal

pub loop-channel-preserved : goal.loop-channel-preserved
loop-channel-preserved c =
    turn_from (channel_faults (c.args.self.now.written.now)) _ _ _ _ c.args.self.now.written.now.channels c.loop-channel.channel-index c.channel-item.result _ c.as_slice-channels.ensures c.loop-channel-test.true c.channel-item.is c.in_ok-found.ensures c.earlier-first.ensures c.loop-channel.invariant

pub returns : goal.returns
returns c = grind (arith, common_steps)
