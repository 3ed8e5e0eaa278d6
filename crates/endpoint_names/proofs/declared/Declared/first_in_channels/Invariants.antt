use Rattle.std.proofs.Common.{◌≡◌, ◌++◌, [], map, drop}
use Rattle.std.specs.List.{flat_map}
use Rattle.chor_base.specs.Faults.{earlier, first_of_all}
use Rattle.endpoint_names.specs.Keys.{sign_of_channel}
use Rattle.endpoint_names.specs.Faults.{repeated, channel_faults}
use Rattle.endpoint_names.proofs.declared.Declared.first_in_channels.Given as goal

abbrev pub invariant-loop-channel : goal.invariant-loop-channel
invariant-loop-channel l =
    earlier l.first (first_of_all (flat_map (channel_faults (l.self.written.now)) (drop l.channel-index l.self.written.now.channels))) ≡ first_of_all (repeated [] (map sign_of_channel l.self.written.now.channels) ++ flat_map (channel_faults (l.self.written.now)) l.self.written.now.channels)
