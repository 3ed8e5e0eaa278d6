use Rattle.grammar.proofs.Passing.{passes}
use Rattle.endpoint_reader.proofs.Nodes.{node_begins, node_told, node_halts, node_full, on_err_always}
use Rattle.endpoint_reader.proofs.node.read_node.Goals as goal

pub returns-in_err-check_room-clause-halts : goal.returns-in_err-check_room-clause-halts
returns-in_err-check_room-clause-halts c = passes _ _ c.from_residual.ensures.1 (node_full _ c.in_err-check_room.ensures.full.0 c.in-Some.ensures.found c.in_err-check_room.ensures.full.1)

pub returns-in_err-action-clause-halts : goal.returns-in_err-action-clause-halts
returns-in_err-action-clause-halts c = passes _ _ c.from_residual-in_err-action.ensures.1 (node_halts _ c.in_ok-check_room.ensures.room c.in-Some.ensures.found c.in_err-action.ensures.halts)

pub returns-clause-some : goal.returns-clause-some
returns-clause-some c = node_told _ c.in_ok-check_room.ensures.room c.in-Some.ensures.found c.in_ok-action.ensures.reads

pub returns-clause-begins : goal.returns-clause-begins
returns-clause-begins c = node_begins _ c.in-Some.ensures.found

pub returns-in_err-check_room-clause-begun : goal.returns-in_err-check_room-clause-begun
returns-in_err-check_room-clause-begun c = on_err_always _ (node_begins _ c.in-Some.ensures.found)

pub returns-in_err-action-clause-begun : goal.returns-in_err-action-clause-begun
returns-in_err-action-clause-begun c = on_err_always _ (node_begins _ c.in-Some.ensures.found)
