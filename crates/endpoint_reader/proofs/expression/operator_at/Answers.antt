use Rattle.std.proofs.Common.{refl}
use Rattle.endpoint_reader.proofs.Levels.{op_last, op_here, op_after}
use Rattle.endpoint_reader.proofs.expression.operator_at.Goals as goal

pub returns-in_ok-after_mark-in-Or-clause-found : goal.returns-in_ok-after_mark-in-Or-clause-found
returns-in_ok-after_mark-in-Or-clause-found c = rw c.in-Or.is (op_last refl c.in_ok-after_mark-in-Or.ensures.found)

pub returns-in_ok-after_mark-in-And-clause-found : goal.returns-in_ok-after_mark-in-And-clause-found
returns-in_ok-after_mark-in-And-clause-found c = rw c.in-And.is (op_last refl c.in_ok-after_mark-in-And.ensures.found)

pub returns-in-Some-clause-found : goal.returns-in-Some-clause-found
returns-in-Some-clause-found c = rw c.in-Sum.is (op_here refl c.in-Some.ensures.found)

pub returns-in_ok-after_mark-in-None-clause-found : goal.returns-in_ok-after_mark-in-None-clause-found
returns-in_ok-after_mark-in-None-clause-found c = rw c.in-Sum.is (op_after c.in-None.ensures.none (op_last refl c.in_ok-after_mark-in-None.ensures.found))

pub returns-in-Some-after_mark-clause-found : goal.returns-in-Some-after_mark-clause-found
returns-in-Some-after_mark-clause-found c = rw c.in-Product.is (op_here refl c.in-Some-after_mark.ensures.found)

pub returns-in_ok-after_mark-in-None-after_mark-clause-found : goal.returns-in_ok-after_mark-in-None-after_mark-clause-found
returns-in_ok-after_mark-in-None-after_mark-clause-found c = rw c.in-Product.is (op_after c.in-None-after_mark.ensures.none (op_last refl c.in_ok-after_mark-in-None-after_mark.ensures.found))
