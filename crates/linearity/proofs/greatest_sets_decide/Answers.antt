use Rattle.linearity.proofs.Greatest.{greatest_orders, orders_linear}
use Rattle.linearity.proofs.greatest_sets_decide.Goals as goal

pub returns-clause-needed : goal.returns-clause-needed
returns-clause-needed c = greatest_orders

pub returns-clause-enough : goal.returns-clause-enough
returns-clause-enough c = orders_linear

pub returns-clause-one : goal.returns-clause-one
returns-clause-one c procs main a sets others g h = (h.greatest sets g.passed, g.greatest others h.passed)
