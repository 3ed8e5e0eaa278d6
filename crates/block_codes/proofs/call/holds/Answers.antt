use Rattle.std.proofs.Common.{arith}
use Rattle.std.proofs.lemmas.Grind.{common_steps}
use Rattle.block_codes.proofs.call.holds.Goals as goal

pub loop-holder-preserved : goal.loop-holder-preserved
loop-holder-preserved c = grind (arith, common_steps)
