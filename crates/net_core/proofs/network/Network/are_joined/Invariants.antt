use Rattle.std.proofs.Common.{◌≡◌, drop}
use Rattle.net_core.specs.Follows.{joined_by}
use Rattle.net_core.proofs.network.Network.are_joined.Given as goal

abbrev pub invariant-loop-place : goal.invariant-loop-place
invariant-loop-place l = joined_by l.self.endpoints l.self.state.machines l.channel (drop l.place l.roles) (drop l.place l.parts) ≡ joined_by l.self.endpoints l.self.state.machines l.channel l.roles l.parts
