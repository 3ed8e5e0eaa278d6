use Rattle.std.proofs.Common.{refl}
use Rattle.endpoint_reader.proofs.Levels.{op_last, op_here, op_after}
use Rattle.endpoint_reader.proofs.expression.comparison_at.Goals as goal

pub returns-in-Some-clause-found : goal.returns-in-Some-clause-found
returns-in-Some-clause-found c = op_here refl c.in-Some.ensures.found

pub returns-in-Some-after_mark-clause-found : goal.returns-in-Some-after_mark-clause-found
returns-in-Some-after_mark-clause-found c = op_after c.in_default.ensures.none (op_here refl c.in-Some-after_mark.ensures.found)

pub returns-in-Some-after_mark-2-clause-found : goal.returns-in-Some-after_mark-2-clause-found
returns-in-Some-after_mark-2-clause-found c = op_after c.in_default.ensures.none (op_after c.in_default-after_mark.ensures.none (op_here refl c.in-Some-after_mark-2.ensures.found))

pub returns-clause-found : goal.returns-clause-found
returns-clause-found c = op_after c.in_default.ensures.none (op_after c.in_default-after_mark.ensures.none (op_after c.in_default-after_mark-2.ensures.none (op_last refl c.in_ok-after_mark.ensures.found)))
