use Rattle.projection.proofs.Makes.{puts_pushed}
use Rattle.block_codes.proofs.statement.put_part.Goals as goal

pub returns-in-Some : goal.returns-in-Some
returns-in-Some c = puts_pushed _ _ c.in-Some.node _ _ _ c.push.result c.in_ok-part.ensures c.in-Some.is c.push.ensures.ok
