use Rattle.endpoint_reader.proofs.Nodes.{no_node}
use Rattle.endpoint_reader.proofs.Operands.{on_none_always}
use Rattle.endpoint_reader.proofs.node.node_word.Goals as goal

pub returns-clause-found : goal.returns-clause-found
returns-clause-found c = record { token = _; stands = record { parts = c.in_ok-token.ensures.found; is = c.in_ok-word.ensures.found } }

pub returns-in_err-word-clause-none : goal.returns-in_err-word-clause-none
returns-in_err-word-clause-none c = on_none_always _ (no_node c.in_ok-token.ensures.found c.in_err-word.ensures.none)
