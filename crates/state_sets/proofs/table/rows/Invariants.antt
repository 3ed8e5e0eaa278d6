use Rattle.std.proofs.Common.{◌-◌, ◌≤◌, length}
use Rattle.state_sets.specs.Numbering.{AreSingles}
use Rattle.state_sets.proofs.TableLoops.{RowsSoFar}
use Rattle.state_sets.proofs.table.rows.Given as goal

abbrev pub invariant-loop-alloc : goal.invariant-loop-alloc
invariant-loop-alloc l = record {
  so_far : RowsSoFar l.groups l.reach l.numbering.sets l.rows.items;
  few : length l.numbering.sets ≤ l.most;
  singles : AreSingles (length l.reach) l.numbering.sets l.numbering.singles.items;
}

abbrev pub decreases-loop-alloc : goal.decreases-loop-alloc
decreases-loop-alloc l = l.most - length l.rows.items
