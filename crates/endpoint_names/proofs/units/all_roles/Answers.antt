use Rattle.std.proofs.Common.{arith}
use Rattle.std.proofs.lemmas.Grind.{common_steps}
use Rattle.endpoint_names.proofs.units.all_roles.Goals as goal

pub loop-role-preserved : goal.loop-role-preserved
loop-role-preserved c = grind (arith, common_steps)

pub returns : goal.returns
returns c = grind (arith, common_steps)
