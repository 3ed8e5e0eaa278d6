use Rattle.std.proofs.Common.{◌≡◌, ◌++◌, ◌&&◌, drop}
use Rattle.endpoint_code.specs.NetworkRuns.{all_ended}
use Rattle.endpoint_code.specs.Scheduled.{listed, listed_from}
use Rattle.net_core.proofs.few.Few.survey.Given as goal

abbrev pub invariant-loop-pid : goal.invariant-loop-pid
invariant-loop-pid l = record {
  ended : (l.ended && all_ended l.network.endpoints (drop l.pid l.network.state.machines)) ≡ all_ended l.network.endpoints l.network.state.machines;
  kept : l.self.heads.items ≡ l.fn.self.heads.items;
  listed : l.self.pids.items ++ listed_from l.network.endpoints l.network.capacity l.network.state l.pid (drop l.pid l.network.state.machines) ≡ listed l.network.endpoints l.network.capacity l.network.state;
}
