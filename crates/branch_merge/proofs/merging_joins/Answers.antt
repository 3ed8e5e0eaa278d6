use Rattle.branch_merge.proofs.Joins.{join_least, join_unique, join_turned, join_self, join_above}
use Rattle.branch_merge.proofs.merging_joins.Goals as goal

pub returns-clause-least : goal.returns-clause-least
returns-clause-least c = join_least

pub returns-clause-unique : goal.returns-clause-unique
returns-clause-unique c = join_unique

pub returns-clause-symmetric : goal.returns-clause-symmetric
returns-clause-symmetric c = join_turned

pub returns-clause-idempotent : goal.returns-clause-idempotent
returns-clause-idempotent c = join_self

pub returns-clause-above : goal.returns-clause-above
returns-clause-above c = join_above
