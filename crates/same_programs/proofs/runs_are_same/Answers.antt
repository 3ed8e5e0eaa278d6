use Rattle.same_programs.proofs.Steps.{run_same}
use Rattle.same_programs.proofs.runs_are_same.Goals as goal

pub returns : goal.returns
returns g e e' hosts hosts' cap h last c s run = run_same e e' c hosts hosts' s cap h last run
