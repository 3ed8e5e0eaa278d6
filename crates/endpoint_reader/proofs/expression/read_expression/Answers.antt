use Rattle.grammar.proofs.Passing.{passes}
use Rattle.endpoint_reader.proofs.Levels.{whole_told, whole_halts}
use Rattle.endpoint_reader.proofs.expression.read_expression.Goals as goal

pub returns-in_err-reading-clause-halts : goal.returns-in_err-reading-clause-halts
returns-in_err-reading-clause-halts c = passes _ _ c.from_residual.ensures.1 (whole_halts c.in_err-reading.ensures.halts)

pub returns-clause-reads : goal.returns-clause-reads
returns-clause-reads c = whole_told c.in_ok-reading.ensures.reads
