use Rattle.same_programs.proofs.Steps.{first_same}
use Rattle.same_programs.proofs.first_states_are_same.Goals as goal

pub returns : goal.returns
returns g e e' c = first_same e e' c
