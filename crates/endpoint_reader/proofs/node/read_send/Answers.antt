use Rattle.grammar.proofs.Sequences.{then_halts, now_halts}
use Rattle.grammar.proofs.Passing.{passes}
use Rattle.endpoint_reader.proofs.Nodes.{sends_told}
use Rattle.endpoint_reader.proofs.node.read_send.Goals as goal

pub returns-in_err-names-clause-halts : goal.returns-in_err-names-clause-halts
returns-in_err-names-clause-halts c = passes _ _ c.from_residual.ensures.1 (now_halts c.in_err-names.ensures.halts)

pub returns-in_err-expr-clause-halts : goal.returns-in_err-expr-clause-halts
returns-in_err-expr-clause-halts c = passes _ _ c.from_residual-in_err-expr.ensures.1 (then_halts c.in_ok-names.ensures.reads c.in_err-expr.ensures.halts)

pub returns-clause-reads : goal.returns-clause-reads
returns-clause-reads c = sends_told c.in_ok-names.ensures.reads c.in_ok-expr.ensures.reads
