use Rattle.endpoint_text.proofs.Sorting.{permuted, ascends, keeps}
use Rattle.endpoint_text.proofs.laws.labels_ascend.Goals as goal

pub returns-clause-all : goal.returns-clause-all
returns-clause-all c = permuted (λ arm. arm.0)

pub returns-clause-sorted : goal.returns-clause-sorted
returns-clause-sorted c = ascends (λ arm. arm.0)

pub returns-clause-stable : goal.returns-clause-stable
returns-clause-stable c arms z = keeps (λ arm. arm.0) arms z
