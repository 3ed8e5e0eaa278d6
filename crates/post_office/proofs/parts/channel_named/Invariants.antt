use Rattle.std.proofs.Common.{◌≡◌, drop}
use Rattle.endpoint_code.specs.Network.{channel_of}
use Rattle.post_office.proofs.parts.channel_named.Given as goal

abbrev pub invariant-loop-channel : goal.invariant-loop-channel
invariant-loop-channel l = channel_of l.channels l.name ≡ channel_of (drop l.channel-index l.channels) l.name
