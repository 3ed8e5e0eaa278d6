use Rattle.std.proofs.Common.{◌≡◌, drop}
use Rattle.std.specs.Prelude.{slice_get}
use Rattle.endpoint_code.specs.Scheduled.{listed, listed_from}
use Rattle.net_core.proofs.network.Network.listed_at.Given as goal

abbrev pub invariant-loop-pid : goal.invariant-loop-pid
invariant-loop-pid l = slice_get (listed l.self.endpoints l.self.capacity l.self.state) l.place ≡ slice_get (listed_from l.self.endpoints l.self.capacity l.self.state l.pid (drop l.pid l.self.state.machines)) l.left
