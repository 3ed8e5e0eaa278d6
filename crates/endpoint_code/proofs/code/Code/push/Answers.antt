use Rattle.chor_base.proofs.Tables.{closed_after}
use Rattle.endpoint_code.specs.Code.{children_of}
use Rattle.endpoint_code.proofs.code.Code.push.Goals as goal

pub invariant_of-self : goal.invariant_of-self
invariant_of-self c = record { closed = closed_after (λ id. id.0) children_of c.args.self.now.nodes c.push.new.self c.args.node c.push.result c.push.ensures.ok c.push.ensures.err c.args.self.now.closed c.requires }
