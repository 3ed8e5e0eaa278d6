use Rattle.std.proofs.Common.{◌<◌}
use Rattle.std.specs.Prelude.{length, ℕ}
use Rattle.net_core.specs.Candidates.{HasPlaces, IsNoted}
use Rattle.net_core.proofs.candidates.Candidates.enter_each.Given as goal

abbrev pub invariant-loop-pid : goal.invariant-loop-pid
invariant-loop-pid l = record {
  places : HasPlaces (length l.network.state.machines) l.self;
  noted : (q : ℕ) → q < l.pid → IsNoted l.network.endpoints l.network.capacity l.network.state l.self q;
}
