use Rattle.state_sets.proofs.Allowed.{StartsSoFar}
use Rattle.state_sets.proofs.starts.starts.Given as goal

abbrev pub invariant-loop-number : goal.invariant-loop-number
invariant-loop-number l = StartsSoFar l.groups l.count l.number l.starts.items
