use Rattle.std.proofs.Common.{◌≡◌, drop, take, None}
use Rattle.endpoint_code.specs.NetworkRuns.{absent_among}
use Rattle.net_core.specs.Starts.{IsCast}
use Rattle.net_core.proofs.network.Network.cast.Given as goal

abbrev pub invariant-loop-role : goal.invariant-loop-role
invariant-loop-role l = record {
  so_far : IsCast l.self.endpoints l.self.state.machines l.channel l.pid l.own (take l.role-index l.roles) l.parts;
  left : absent_among l.self.endpoints l.self.state.machines l.channel l.own (drop l.role-index l.roles) ≡ None;
}
