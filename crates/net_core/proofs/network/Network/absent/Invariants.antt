use Rattle.std.proofs.Common.{◌≡◌, drop}
use Rattle.endpoint_code.specs.NetworkRuns.{absent_among}
use Rattle.net_core.proofs.network.Network.absent.Given as goal

abbrev pub invariant-loop-role : goal.invariant-loop-role
invariant-loop-role l =
    absent_among l.self.endpoints l.self.state.machines l.channel l.own l.roles ≡ absent_among l.self.endpoints l.self.state.machines l.channel l.own (drop l.role-index l.roles)
