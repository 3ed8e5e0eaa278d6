use Rattle.std.proofs.Common.{take}
use Rattle.net_core.specs.Candidates.{Judges}
use Rattle.net_core.proofs.candidates.judge_all.Given as goal

abbrev pub invariant-loop-pid : goal.invariant-loop-pid
invariant-loop-pid l = Judges l.network.endpoints l.network.capacity l.network.state l.fn.listed (take l.pid-index l.pids) l.listed
