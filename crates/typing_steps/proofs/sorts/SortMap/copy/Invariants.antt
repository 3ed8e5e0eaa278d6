use Rattle.std.proofs.Common.{◌≡◌}
use Rattle.typing_steps.specs.Sorts.{sorts_in}
use Rattle.typing_steps.proofs.SortMaps.{AreApart, sorts_over}
use Rattle.typing_steps.proofs.sorts.SortMap.copy.Given as goal

abbrev pub invariant-loop-process : goal.invariant-loop-process
invariant-loop-process l = AreApart l.process-iterator × (sorts_over l.process-iterator (sorts_in l.sorts) ≡ sorts_in l.self)
