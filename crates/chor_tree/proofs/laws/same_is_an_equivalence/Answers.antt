use Rattle.chor_tree.proofs.SameJoined.{same_files_reflexive, same_files_symmetric, same_files_transitive}
use Rattle.chor_tree.proofs.laws.same_is_an_equivalence.Goals as goal

pub returns-clause-reflexive : goal.returns-clause-reflexive
returns-clause-reflexive c = same_files_reflexive

pub returns-clause-symmetric : goal.returns-clause-symmetric
returns-clause-symmetric c = same_files_symmetric

pub returns-clause-transitive : goal.returns-clause-transitive
returns-clause-transitive c = same_files_transitive
