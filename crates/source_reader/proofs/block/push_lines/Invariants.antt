use Rattle.std.proofs.Common.{length}
use Rattle.source_reader.proofs.Lines.{Pushes, Leading}
use Rattle.source_reader.proofs.block.push_lines.Given as goal

abbrev pub invariant-loop-line : goal.invariant-loop-line
invariant-loop-line l = record { pushes : Pushes l.fn.tree.nodes l.fn.lines.items l.fn.tail l.tree.nodes l.lines.items l.next; leading : Leading l.fn.tree.nodes l.fn.tail l.tree.nodes l.next }

abbrev pub decreases-loop-line : goal.decreases-loop-line
decreases-loop-line l = length l.lines.items
