use Rattle.grammar.proofs.Passing.{passes}
use Rattle.endpoint_reader.proofs.Nodes.{exchange_told}
use Rattle.endpoint_reader.proofs.node.read_exchange.Goals as goal

pub returns-in_err-names-clause-halts : goal.returns-in_err-names-clause-halts
returns-in_err-names-clause-halts c = passes _ _ c.from_residual.ensures.1 c.in_err-names.ensures.halts

pub returns-clause-reads : goal.returns-clause-reads
returns-clause-reads c = exchange_told _ c.in_ok-names.ensures.reads (c.action_of.ensures.deed c.args.input.now)

pub returns-clause-known : goal.returns-clause-known
returns-clause-known c = c.action_of.ensures.known c.args.input.now c.in_ok-names.ensures.known
