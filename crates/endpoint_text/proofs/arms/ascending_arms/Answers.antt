use Rattle.std.proofs.Common.{arith}
use Rattle.endpoint_text.proofs.Ascents.{one_more}
use Rattle.endpoint_text.proofs.arms.ascending_arms.Goals as goal

pub loop-index-preserved : goal.loop-index-preserved
loop-index-preserved c = grind (arith, one_more)
