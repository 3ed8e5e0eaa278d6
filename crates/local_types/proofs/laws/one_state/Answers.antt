use Rattle.local_types.proofs.Numbers.{one_state}
use Rattle.local_types.proofs.laws.one_state.Goals as goal

pub returns : goal.returns
returns c = one_state
