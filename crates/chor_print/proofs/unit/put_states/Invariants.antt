use Rattle.std.proofs.Common.{◌≡◌, ◌++◌, drop, map}
use Rattle.chor_print.specs.Text.{state_line}
use Rattle.chor_print.specs.Parts.{lines_at}
use Rattle.chor_print.proofs.unit.put_states.Given as goal

abbrev pub invariant-loop-state : goal.invariant-loop-state
invariant-loop-state l = l.out.items ++ lines_at 1 (map (state_line l.names) (drop l.state-index l.states)) ≡ l.fn.out.items ++ lines_at 1 (map (state_line l.names) l.states)
