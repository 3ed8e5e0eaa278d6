use Rattle.std.proofs.Common.{arith}
use Rattle.std.proofs.lemmas.Grind.{common_steps}
use Rattle.chor_print.proofs.statement.put_host.Goals as goal

pub returns : goal.returns
returns c = grind (arith, common_steps)
