use Rattle.std.proofs.Common.{arith}
use Rattle.std.proofs.lemmas.Grind.{common_steps}
use Rattle.chor_print.specs.Lines.{blocks_of}
use Rattle.chor_print.proofs.Lines.{if_lines}
use Rattle.chor_print.proofs.block.+put_block.Goals as goal

pub returns-in_ok-put_block-in-If-2 : goal.returns-in_ok-put_block-in-If-2
returns-in_ok-put_block-in-If-2 t c =
    let lines = if_lines c.args.file.now (blocks_of c.args.file.now) c.args.depth c.in_ok-process.field-0.now c.in-If.is in
    grind (arith, common_steps, lines)
