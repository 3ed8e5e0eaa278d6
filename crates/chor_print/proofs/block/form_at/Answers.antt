use Rattle.chor_print.proofs.Blocks.{block_at}
use Rattle.chor_print.proofs.block.form_at.Goals as goal

pub returns-clause-lines : goal.returns-clause-lines
returns-clause-lines c = block_at c.args.file.now c.args.id c.at.result.now c.args.file.now.tree.closed c.at.ensures
