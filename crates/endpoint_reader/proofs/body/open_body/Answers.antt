use Rattle.std.proofs.Common.{refl, arith}
use Rattle.grammar.proofs.Passing.{passes}
use Rattle.grammar.proofs.Progress.{read_shorter}
use Rattle.endpoint_reader.proofs.Bodies.{body_closed, lines_halt}
use Rattle.endpoint_reader.proofs.body.open_body.Goals as goal

pub returns-in_err-at-clause-halts : goal.returns-in_err-at-clause-halts
returns-in_err-at-clause-halts c = passes _ _ c.from_residual.ensures.1 (body_closed c.in_err-at.ensures.missed)

pub returns-in_err-begun-clause-halts : goal.returns-in_err-begun-clause-halts
returns-in_err-begun-clause-halts c = passes _ _ c.from_residual-in_err-begun.ensures.1 (lines_halt c.in_ok-at.ensures.reads c.in_err-begun.ensures.halts)

pub returns-clause-opens : goal.returns-clause-opens
returns-clause-opens c = record { start = _; opens = c.in_ok-at.ensures.reads; going = c.in_ok-begun.ensures.leads; all = c.in_ok-begun.ensures.all; shorter = omega (arith, read_shorter refl c.in_ok-at.ensures.reads, c.in_ok-begun.ensures.further) }
