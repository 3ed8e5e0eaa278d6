use Rattle.net_core.proofs.Shown.{ShowsFirst}
use Rattle.net_core.proofs.few.Few.look.Given as goal

abbrev pub invariant-loop-pid : goal.invariant-loop-pid
invariant-loop-pid l = ShowsFirst l.network.endpoints l.network.state l.pid l.self.heads.items
