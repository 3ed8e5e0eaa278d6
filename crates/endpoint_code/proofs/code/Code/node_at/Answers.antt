use Rattle.endpoint_code.proofs.CodeTables.{code_at-node}
use Rattle.endpoint_code.proofs.code.Code.node_at.Goals as goal

pub returns-clause-tree : goal.returns-clause-tree
returns-clause-tree c = code_at-node c.args.self.now.nodes c.args.id c.at.result.now c.args.self.now.closed c.at.ensures
