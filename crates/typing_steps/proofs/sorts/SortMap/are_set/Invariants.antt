use Rattle.std.proofs.Common.{◌≡◌, drop}
use Rattle.typing_rules.specs.Checks.{are_set}
use Rattle.typing_steps.specs.Sorts.{sorts_in}
use Rattle.typing_steps.proofs.sorts.SortMap.are_set.Given as goal

abbrev pub invariant-loop-var : goal.invariant-loop-var
invariant-loop-var l = are_set (drop l.var-index l.vars) (sorts_in l.self l.process) ≡ are_set l.vars (sorts_in l.self l.process)
