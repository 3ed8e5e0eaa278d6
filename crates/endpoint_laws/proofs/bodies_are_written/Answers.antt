use Rattle.endpoint_laws.proofs.Trees.{bodies_written}
use Rattle.endpoint_laws.proofs.bodies_are_written.Goals as goal

pub returns : goal.returns
returns c = bodies_written
