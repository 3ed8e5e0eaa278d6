use Rattle.std.proofs.Common.{◌≡◌, ◌≤◌, length, drop}
use Rattle.typing_rules.specs.Environment.{declared_sort}
use Rattle.typing_steps.specs.Sorts.{sorts_of_map}
use Rattle.typing_steps.proofs.sorts.declared_env.Given as goal

abbrev pub invariant-loop-left : goal.invariant-loop-left
invariant-loop-left l = record { within : l.left ≤ length l.vars; so_far : sorts_of_map l.env.map ≡ declared_sort (drop l.left l.vars) }

abbrev pub decreases-loop-left : goal.decreases-loop-left
decreases-loop-left l = l.left
