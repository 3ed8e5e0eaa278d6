use Rattle.std.proofs.Common.{take}
use Rattle.global_types.specs.Moves.{IsIn}
use Rattle.state_sets.specs.declared.table.Row.{Row}
use Rattle.state_sets.specs.Table.{IsLeft}
use Rattle.local_types.proofs.view.leaves_behind.Given as goal

abbrev pub invariant-loop-row : goal.invariant-loop-row
invariant-loop-row l = (row : Row) → IsIn row (take l.row-index l.rows) → IsLeft l.circling l.named row → ⊥
