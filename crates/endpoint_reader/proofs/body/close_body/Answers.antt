use Rattle.grammar.proofs.Passing.{passes}
use Rattle.endpoint_reader.proofs.body.close_body.Goals as goal

pub returns-in_err-at-clause-halts : goal.returns-in_err-at-clause-halts
returns-in_err-at-clause-halts c = passes _ _ c.from_residual.ensures.1 c.in_err-at.ensures.halts

pub returns-clause-closes : goal.returns-clause-closes
returns-clause-closes c = record { closes = c.in_ok-at.ensures.reads; body = c.in_ok-first.ensures.body }

pub returns-clause-known : goal.returns-clause-known
returns-clause-known c = c.in_ok-first.ensures.known c.args.input.now c.requires.lines c.requires.actions
