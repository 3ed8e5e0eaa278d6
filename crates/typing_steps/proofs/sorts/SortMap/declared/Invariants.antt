use Rattle.std.proofs.Common.{◌≡◌, ◌≤◌, length, drop}
use Rattle.typing_rules.specs.Environment.{declared_sorts}
use Rattle.typing_steps.specs.Sorts.{sorts_in}
use Rattle.typing_steps.proofs.sorts.SortMap.declared.Given as goal

abbrev pub invariant-loop-left : goal.invariant-loop-left
invariant-loop-left l = record { within : l.left ≤ length l.params; so_far : sorts_in l.sorts ≡ declared_sorts (drop l.left l.params) }

abbrev pub decreases-loop-left : goal.decreases-loop-left
decreases-loop-left l = l.left
