use Rattle.endpoint_names.proofs.Tables.{body_at-line}
use Rattle.endpoint_names.proofs.bodies.line_at.Goals as goal

pub returns-clause-body : goal.returns-clause-body
returns-clause-body c = let ls = c.args.written.now.lines in body_at-line ls.items c.args.id c.at.result.now ls.closed c.at.ensures
