use Rattle.endpoint_link.proofs.AddedNodes.{Underway}
use Rattle.endpoint_link.proofs.table.add_nodes.Given as goal

abbrev pub invariant-loop-node : goal.invariant-loop-node
invariant-loop-node l = Underway l.numbers l.given.nodes l.initial.code.nodes l.code.nodes l.node-index
