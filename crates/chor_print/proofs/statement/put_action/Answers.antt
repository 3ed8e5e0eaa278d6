use Rattle.std.proofs.Common.{arith}
use Rattle.std.proofs.lemmas.Grind.{common_steps}
use Rattle.chor_print.proofs.statement.put_action.Goals as goal

pub returns-in_ok-put_target-in-Host : goal.returns-in_ok-put_target-in-Host
returns-in_ok-put_target-in-Host c = grind (arith, common_steps)
