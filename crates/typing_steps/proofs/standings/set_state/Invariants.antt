use Rattle.std.proofs.Common.{◌≡◌, ◌++◌, map, take, drop}
use Rattle.typing_rules.specs.Environment.{moved_one}
use Rattle.typing_steps.proofs.standings.set_state.Given as goal

abbrev pub invariant-loop-standing : goal.invariant-loop-standing
invariant-loop-standing l = l.standing-items ≡ map (moved_one l.session l.state) (take l.standing-index l.fn.standings.items) ++ drop l.standing-index l.fn.standings.items
