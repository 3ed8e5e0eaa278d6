use Rattle.std.proofs.Common.{◌≡◌, ◌<◌, ℕ, get_or, false}
use Rattle.net_core.specs.Heads.{joins_in}
use Rattle.net_core.proofs.network.Network.is_joined_among.Given as goal

abbrev pub invariant-loop-pid : goal.invariant-loop-pid
invariant-loop-pid l = (k : ℕ) → k < l.pid-index → joins_in l.self.endpoints l.self.state (get_or l.joiners k 0) l.channel l.role ≡ false
