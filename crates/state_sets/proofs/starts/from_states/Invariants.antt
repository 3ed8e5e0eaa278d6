use Rattle.state_sets.proofs.Allowed.{HasListed}
use Rattle.state_sets.proofs.starts.from_states.Given as goal

abbrev pub invariant-loop-state : goal.invariant-loop-state
invariant-loop-state l = HasListed l.still l.starts l.state l.numbers.items
