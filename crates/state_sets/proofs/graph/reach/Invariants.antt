use Rattle.state_sets.proofs.Silence.{IsWalked}
use Rattle.state_sets.proofs.graph.reach.Given as goal

abbrev pub invariant-loop-state : goal.invariant-loop-state
invariant-loop-state l = IsWalked l.moves l.count l.state l.rows.items
