use Rattle.std.proofs.Common.{take}
use Rattle.global_types.specs.Moves.{IsIn}
use Rattle.state_sets.specs.declared.table.Row.{Row}
use Rattle.state_sets.specs.Sets.{HasTwo}
use Rattle.local_types.proofs.view.are_crowded.Given as goal

abbrev pub invariant-loop-row : goal.invariant-loop-row
invariant-loop-row l = (row : Row) → IsIn row (take l.row-index l.rows) → HasTwo row.still.items → ⊥
