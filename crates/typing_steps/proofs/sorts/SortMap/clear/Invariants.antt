use Rattle.std.proofs.Common.{◌≡◌, map, drop}
use Rattle.typing_rules.specs.Environment.{unset}
use Rattle.typing_steps.specs.Sorts.{sorts_in}
use Rattle.typing_steps.proofs.sorts.SortMap.clear.Given as goal

abbrev pub invariant-loop-part : goal.invariant-loop-part
invariant-loop-part l = unset (sorts_in l.self) (map (λ q. q.process.name) (drop l.part-index l.parts)) ≡ unset (sorts_in l.fn.self) (map (λ q. q.process.name) l.parts)
