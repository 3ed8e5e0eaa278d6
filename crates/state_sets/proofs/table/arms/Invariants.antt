use Rattle.std.proofs.Common.{◌≤◌, length}
use Rattle.state_sets.specs.Numbering.{AreSingles}
use Rattle.state_sets.proofs.Allowed.{ArmsFound}
use Rattle.state_sets.proofs.table.arms.Given as goal

abbrev pub invariant-loop-number : goal.invariant-loop-number
invariant-loop-number l = record {
  found : ArmsFound l.groups l.numbers l.still l.initial.numbering.sets l.number-index l.place l.numbering.sets l.arms.items;
  few : length l.numbering.sets ≤ l.most;
  singles : AreSingles (length l.still) l.numbering.sets l.numbering.singles.items;
}
