use Rattle.std.proofs.Common.{◌≡◌, ◌++◌, ◌<◌, length}
use Rattle.std.specs.Prelude.{All}
use Rattle.chor_tree.specs.Children.{children_of}
use Rattle.chor_print.specs.Lines.{lines_of_form, blocks_of, block_lines}
use Rattle.chor_print.specs.Parts.{lines_at}
use Rattle.chor_print.proofs.block.put_statements.Given as goal

abbrev pub invariant-loop-next : goal.invariant-loop-next
invariant-loop-next l =
    (l.out.items ++ lines_at l.depth (lines_of_form l.file (blocks_of l.file) l.form) ≡ l.fn.out.items ++ lines_at l.depth (block_lines l.file l.fn.id))
    × All (λ c. c.0 < l.fn.id.0) (children_of l.form)

abbrev pub decreases-loop-next : goal.decreases-loop-next
decreases-loop-next l = length (lines_of_form l.file (blocks_of l.file) l.form)
