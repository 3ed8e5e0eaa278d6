use Rattle.grammar.proofs.Passing.{passes}
use Rattle.std.proofs.Common.{ap}
use Rattle.endpoint_grammar.specs.Written.{Shows}
use Rattle.endpoint_reader.proofs.node.read_show.Goals as goal

pub returns-in_err-expr-clause-halts : goal.returns-in_err-expr-clause-halts
returns-in_err-expr-clause-halts c = passes _ _ c.from_residual.ensures.1 c.in_err-expr.ensures.halts

pub returns-clause-reads : goal.returns-clause-reads
returns-clause-reads c = record { value = _; reads = c.in_ok-expr.ensures.reads.reads; is = ap Shows c.in_ok-expr.ensures.reads.is }
