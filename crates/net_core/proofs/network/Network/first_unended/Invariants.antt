use Rattle.std.proofs.Common.{◌≡◌, drop}
use Rattle.endpoint_code.specs.Scheduled.{first_waiting, first_waiting_from}
use Rattle.net_core.proofs.network.Network.first_unended.Given as goal

abbrev pub invariant-loop-pid : goal.invariant-loop-pid
invariant-loop-pid l = first_waiting l.self.endpoints l.self.capacity l.self.state ≡ first_waiting_from l.self.endpoints l.self.capacity l.self.state l.pid (drop l.pid l.self.state.machines)
