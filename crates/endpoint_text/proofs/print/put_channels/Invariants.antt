use Rattle.std.proofs.Common.{◌≡◌, ◌++◌, drop}
use Rattle.std.specs.List.{flat_map}
use Rattle.endpoint_text.specs.Text.{channel_line}
use Rattle.endpoint_text.proofs.print.put_channels.Given as goal

abbrev pub invariant-loop-channel : goal.invariant-loop-channel
invariant-loop-channel l = l.out.items ++ flat_map (channel_line l.e) (drop l.channel-index l.e.channels) ≡ l.fn.out.items ++ flat_map (channel_line l.e) l.e.channels
