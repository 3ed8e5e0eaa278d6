use Rattle.correspondence.proofs.First.{first_corresponds}
use Rattle.correspondence.proofs.laws.first_states_correspond.Goals as goal

pub returns : goal.returns
returns c0 e f sets lists begins = first_corresponds e f sets lists begins
