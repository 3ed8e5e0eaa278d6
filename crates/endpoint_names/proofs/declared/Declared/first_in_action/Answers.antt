use Rattle.std.proofs.Common.{arith}
use Rattle.chor_base.proofs.Faults.{first_append}
use Rattle.endpoint_names.proofs.declared.Declared.first_in_action.Goals as goal

pub returns-in-Join : goal.returns-in-Join
returns-in-Join c = grind (arith, first_append)

pub returns-in-Give : goal.returns-in-Give
returns-in-Give c = grind (arith, first_append)

pub returns-in-Gain : goal.returns-in-Gain
returns-in-Gain c = grind (arith, first_append)
