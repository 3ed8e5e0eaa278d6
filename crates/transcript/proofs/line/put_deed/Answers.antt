use Rattle.std.proofs.Common.{arith}
use Rattle.std.proofs.lemmas.Grind.{common_steps}
use Rattle.transcript.proofs.line.put_deed.Goals as goal

pub returns-in-Start : goal.returns-in-Start
returns-in-Start c = grind (arith, common_steps)

pub returns-in_ok-put_doing-in-Show : goal.returns-in_ok-put_doing-in-Show
returns-in_ok-put_doing-in-Show c = grind (arith, common_steps)
