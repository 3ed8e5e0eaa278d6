use Rattle.std.proofs.Common.{take}
use Rattle.net_core.specs.Candidates.{Renews}
use Rattle.net_core.proofs.candidates.renew_all.Given as goal

abbrev pub invariant-loop-pid : goal.invariant-loop-pid
invariant-loop-pid l = Renews l.network.endpoints l.network.capacity l.network.state l.done l.fn.listed (take l.pid-index l.pids) l.listed
