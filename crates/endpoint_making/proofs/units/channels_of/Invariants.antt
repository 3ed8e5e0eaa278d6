use Rattle.std.proofs.Common.{◌≡◌, ◌++◌, map, drop}
use Rattle.endpoint_making.specs.Making.{channel_made}
use Rattle.endpoint_making.proofs.units.channels_of.Given as goal

abbrev pub invariant-loop-channel : goal.invariant-loop-channel
invariant-loop-channel l = l.list ++ map channel_made (drop l.channel-index l.channels) ≡ map channel_made l.channels
