use Rattle.local_types.proofs.Numbers.{told_apart}
use Rattle.local_types.proofs.laws.states_are_sets.Goals as goal

pub returns : goal.returns
returns c = told_apart
