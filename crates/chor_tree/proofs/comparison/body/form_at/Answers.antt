use Rattle.chor_tree.proofs.Blocks.{block_at}
use Rattle.chor_tree.proofs.comparison.body.form_at.Goals as goal

pub returns-clause-block : goal.returns-clause-block
returns-clause-block c = (c.at.result.now.place, block_at c.args.tree.now.nodes c.args.id c.at.result.now c.args.tree.now.closed c.at.ensures)
