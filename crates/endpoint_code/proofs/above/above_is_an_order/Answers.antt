use Rattle.endpoint_code.proofs.AboveOrder.{above_self, above_trans, above_antisym, reordered_above, reordered_below}
use Rattle.endpoint_code.proofs.above.above_is_an_order.Goals as goal

pub returns-clause-reflexive : goal.returns-clause-reflexive
returns-clause-reflexive c = above_self

pub returns-clause-transitive : goal.returns-clause-transitive
returns-clause-transitive c r q p b a = above_trans b a

pub returns-clause-antisymmetric : goal.returns-clause-antisymmetric
returns-clause-antisymmetric c q p d e x y = above_antisym q d e x y

pub returns-clause-reordered : goal.returns-clause-reordered
returns-clause-reordered c q p r = (reordered_above r, reordered_below r)
