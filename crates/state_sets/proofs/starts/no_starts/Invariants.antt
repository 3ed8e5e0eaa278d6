use Rattle.std.proofs.Common.{◌≡◌, length}
use Rattle.state_sets.proofs.starts.no_starts.Given as goal

abbrev pub invariant-loop : goal.invariant-loop
invariant-loop l = length l.starts.items ≡ l.counter
