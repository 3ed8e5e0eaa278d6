use Rattle.endpoint_code.proofs.CodeTables.{code_at-node}
use Rattle.endpoint_text.proofs.code.node_at.Goals as goal

pub returns-clause-tree : goal.returns-clause-tree
returns-clause-tree c = code_at-node c.args.e.now.code.nodes c.args.id c.at.result.now c.args.e.now.code.closed c.at.ensures
