use Rattle.std.proofs.Common.{◌≡◌, ◌≤◌, ap, ◌∙◌, arith, length, codes}
use Rattle.std.proofs.lemmas.Grind.{common_steps}
use Rattle.std.proofs.lemmas.List.{append-nil}
use Rattle.chor_print.specs.Lines.{block_lines}
use Rattle.chor_print.specs.Parts.{line_at, lines_at}
use Rattle.chor_print.proofs.Blocks.{no_block}
use Rattle.chor_print.proofs.block.put_any_block.Goals as goal

pub returns-else-body-len : goal.returns-else-body-len
returns-else-body-len c =
    let beyond : length c.args.file.now.tree.nodes ≤ c.args.body.0 = omega (arith, c.len.ensures, c.if-body-len.false) in
    let lines : lines_at 1 (block_lines c.args.file.now c.args.body) ≡ line_at 1 (codes "end") =
    ap (lines_at 1) (no_block c.args.file.now c.args.body beyond) ∙ append-nil (line_at 1 (codes "end")) in
    grind (arith, common_steps, lines)
