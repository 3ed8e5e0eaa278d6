use Rattle.std.proofs.Common.{◌≡◌, ◌++◌, drop}
use Rattle.local_types.specs.Text.{states_text}
use Rattle.local_types.proofs.print.put_states.Given as goal

abbrev pub invariant-loop-number : goal.invariant-loop-number
invariant-loop-number l = l.text.items ++ states_text l.names l.number (drop l.number l.states) ≡ l.initial.text.items ++ states_text l.names 0 l.states
