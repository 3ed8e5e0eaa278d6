use Rattle.std.proofs.Common.{◌≡◌, drop}
use Rattle.endpoint_code.specs.Network.{channel_of}
use Rattle.endpoint_code.specs.NetworkRuns.{absent_among, absent_on}
use Rattle.net_core.proofs.network.Network.are_joined_among.Given as goal

abbrev pub invariant-loop-role : goal.invariant-loop-role
invariant-loop-role l = absent_on l.self.endpoints l.self.state.machines l.channel l.own (channel_of l.self.endpoints.channels l.channel) ≡ absent_among l.self.endpoints l.self.state.machines l.channel l.own (drop l.role-index l.role-items)
