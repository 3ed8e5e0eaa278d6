use Rattle.std.proofs.Common.{◌≡◌, ◌<◌}
use Rattle.std.specs.Prelude.{length, ℕ}
use Rattle.net_core.specs.Candidates.{IsJudged}
use Rattle.net_core.proofs.candidates.Candidates.judge_each.Given as goal

abbrev pub invariant-loop-pid : goal.invariant-loop-pid
invariant-loop-pid l = record {
  unended : l.self.unended ≡ l.fn.self.unended;
  waiting : l.self.waiting ≡ l.fn.self.waiting;
  count : length l.self.listed ≡ length l.fn.self.listed;
  judged : (q : ℕ) → q < l.pid → IsJudged l.network.endpoints l.network.capacity l.network.state l.self.listed q;
}
