use Rattle.std.proofs.Common.{take}
use Rattle.state_sets.proofs.Direct.{AreDirect}
use Rattle.state_sets.proofs.graph.direct.Given as goal

abbrev pub invariant-loop-item : goal.invariant-loop-item
invariant-loop-item l = AreDirect l.count (take l.item-index l.moves) l.rows.items
