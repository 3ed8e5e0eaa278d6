use Rattle.std.proofs.Common.{take}
use Rattle.net_core.specs.Candidates.{Enters}
use Rattle.net_core.proofs.candidates.Candidates.enter_all.Given as goal

abbrev pub invariant-loop-pid : goal.invariant-loop-pid
invariant-loop-pid l = Enters l.network.endpoints l.network.capacity l.network.state l.fn.self (take l.pid-index l.pids) l.joins l.self
