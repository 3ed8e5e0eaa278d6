use Rattle.grammar.proofs.Sequences.{then_halts, now_halts}
use Rattle.grammar.proofs.Passing.{passes}
use Rattle.endpoint_reader.proofs.Nodes.{asks_told}
use Rattle.endpoint_reader.proofs.node.read_host.Goals as goal

pub returns-in_err-names-clause-halts : goal.returns-in_err-names-clause-halts
returns-in_err-names-clause-halts c = passes _ _ c.from_residual.ensures.1 (now_halts c.in_err-names.ensures.halts)

pub returns-in_err-at-clause-halts : goal.returns-in_err-at-clause-halts
returns-in_err-at-clause-halts c = passes _ _ c.from_residual-in_err-at.ensures.1 (then_halts c.in_ok-names.ensures.reads (now_halts c.in_err-at.ensures.halts))

pub returns-in_err-left-clause-halts : goal.returns-in_err-left-clause-halts
returns-in_err-left-clause-halts c = passes _ _ c.from_residual-in_err-left.ensures.1 (then_halts c.in_ok-names.ensures.reads (then_halts c.in_ok-at.ensures.reads (now_halts c.in_err-left.ensures.halts)))

pub returns-in_err-at-2-clause-halts : goal.returns-in_err-at-2-clause-halts
returns-in_err-at-2-clause-halts c = passes _ _ c.from_residual-in_err-at-2.ensures.1 (then_halts c.in_ok-names.ensures.reads (then_halts c.in_ok-at.ensures.reads (then_halts c.in_ok-left.ensures.reads.reads (now_halts c.in_err-at-2.ensures.halts))))

pub returns-in_err-right-clause-halts : goal.returns-in_err-right-clause-halts
returns-in_err-right-clause-halts c = passes _ _ c.from_residual-in_err-right.ensures.1 (then_halts c.in_ok-names.ensures.reads (then_halts c.in_ok-at.ensures.reads (then_halts c.in_ok-left.ensures.reads.reads (then_halts c.in_ok-at-2.ensures.reads (now_halts c.in_err-right.ensures.halts)))))

pub returns-in_err-at-3-clause-halts : goal.returns-in_err-at-3-clause-halts
returns-in_err-at-3-clause-halts c = passes _ _ c.from_residual-in_err-at-3.ensures.1 (then_halts c.in_ok-names.ensures.reads (then_halts c.in_ok-at.ensures.reads (then_halts c.in_ok-left.ensures.reads.reads (then_halts c.in_ok-at-2.ensures.reads (then_halts c.in_ok-right.ensures.reads.reads c.in_err-at-3.ensures.halts)))))

pub returns-clause-reads : goal.returns-clause-reads
returns-clause-reads c = asks_told c.in_ok-names.ensures.reads c.in_ok-at.ensures.reads c.in_ok-left.ensures.reads c.in_ok-at-2.ensures.reads c.in_ok-right.ensures.reads c.in_ok-at-3.ensures.reads
