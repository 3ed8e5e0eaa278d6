use Rattle.std.proofs.Common.{◌≡◌, drop}
use Rattle.endpoint_code.specs.NetworkRuns.{all_ended}
use Rattle.net_core.proofs.network.Network.finished.Given as goal

abbrev pub invariant-loop-pid : goal.invariant-loop-pid
invariant-loop-pid l = all_ended l.self.endpoints l.self.state.machines ≡ all_ended l.self.endpoints (drop l.pid l.self.state.machines)
