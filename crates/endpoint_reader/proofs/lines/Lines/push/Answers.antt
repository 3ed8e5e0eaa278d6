use Rattle.endpoint_reader.proofs.Tables.{closed_after}
use Rattle.endpoint_reader.proofs.lines.Lines.push.Goals as goal

pub invariant_of-self : goal.invariant_of-self
invariant_of-self c = record { closed = closed_after _ _ _ c.push.result c.args.self.now.closed c.requires c.push.ensures.ok c.push.ensures.err }
