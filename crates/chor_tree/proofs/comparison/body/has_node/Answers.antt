use Rattle.std.proofs.Common.{arith}
use Rattle.std.proofs.lemmas.Bool.Decides.{nat_tests}
use Rattle.chor_tree.proofs.Blocks.{block_past}
use Rattle.chor_tree.proofs.comparison.body.has_node.Goals as goal

pub returns-clause-block : goal.returns-clause-block
returns-clause-block c e = block_past c.args.tree.now.nodes c.args.id (grind (arith, nat_tests, e, c.len.ensures))
