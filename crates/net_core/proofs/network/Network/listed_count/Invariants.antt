use Rattle.std.proofs.Common.{◌≡◌, ◌≤◌, ◌+◌, drop, length}
use Rattle.endpoint_code.specs.Scheduled.{listed, listed_from}
use Rattle.net_core.proofs.network.Network.listed_count.Given as goal

abbrev pub invariant-loop-pid : goal.invariant-loop-pid
invariant-loop-pid l = record {
  so_far : l.count + length (listed_from l.self.endpoints l.self.capacity l.self.state l.pid (drop l.pid l.self.state.machines)) ≡ length (listed l.self.endpoints l.self.capacity l.self.state);
  few : l.count ≤ l.pid;
}
