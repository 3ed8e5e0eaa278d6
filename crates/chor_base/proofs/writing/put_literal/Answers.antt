use Rattle.std.proofs.Common.{arith}
use Rattle.std.proofs.lemmas.Grind.{common_steps}
use Rattle.chor_base.proofs.writing.put_literal.Goals as goal

pub returns-in_ok-put_bytes-2-clause-ok : goal.returns-in_ok-put_bytes-2-clause-ok
returns-in_ok-put_bytes-2-clause-ok c = grind (arith, common_steps)
