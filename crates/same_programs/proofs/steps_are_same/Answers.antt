use Rattle.same_programs.proofs.Steps.{step_same}
use Rattle.same_programs.proofs.steps_are_same.Goals as goal

pub returns : goal.returns
returns g e e' hosts hosts' cap n n' m x c s same step = step_same e e' c hosts hosts' s cap n n' m x same step
