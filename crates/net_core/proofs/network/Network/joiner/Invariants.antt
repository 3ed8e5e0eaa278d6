use Rattle.std.proofs.Common.{◌≡◌, drop}
use Rattle.endpoint_code.specs.Scheduled.{least_joiner}
use Rattle.net_core.proofs.network.Network.joiner.Given as goal

abbrev pub invariant-loop-pid : goal.invariant-loop-pid
invariant-loop-pid l =
    least_joiner l.self.endpoints 0 l.self.state.machines l.channel l.role ≡ least_joiner l.self.endpoints l.pid (drop l.pid l.self.state.machines) l.channel l.role
