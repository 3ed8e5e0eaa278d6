use Rattle.grammar.proofs.Passing.{passes}
use Rattle.endpoint_reader.proofs.Arms.{each_inside}
use Rattle.endpoint_reader.proofs.Tables.{grows_by, last_there, body_pushed}
use Rattle.endpoint_reader.proofs.Known.{one_more_line}
use Rattle.endpoint_reader.proofs.body.close_branch.Goals as goal

pub returns-in_err-at-clause-halts : goal.returns-in_err-at-clause-halts
returns-in_err-at-clause-halts c = passes _ _ c.from_residual.ensures.1 c.in_err-at.ensures.halts

pub push-requires : goal.push-requires
push-requires c = each_inside _ _ c.requires.arms

pub returns-clause-closes : goal.returns-clause-closes
returns-clause-closes c = record { closes = c.in_ok-at.ensures.reads; body = λ i. body_pushed i _ _ c.in_ok-branch.ensures.grows c.in_ok-branch.ensures.id }

pub returns-clause-there : goal.returns-clause-there
returns-clause-there c = last_there _ _ c.in_ok-branch.ensures.grows c.in_ok-branch.ensures.id

pub returns-clause-grows : goal.returns-clause-grows
returns-clause-grows c = grows_by _ c.in_ok-branch.ensures.grows

pub returns-clause-known : goal.returns-clause-known
returns-clause-known c = one_more_line c.args.input.now _ _ _ c.requires.lines (c.requires.names.0, c.requires.names.1, c.requires.labels) c.in_ok-branch.ensures.grows
