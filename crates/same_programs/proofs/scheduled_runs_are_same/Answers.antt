use Rattle.same_programs.proofs.Scheduling.{scheduled_same}
use Rattle.same_programs.proofs.scheduled_runs_are_same.Goals as goal

pub returns : goal.returns
returns g e e' hosts hosts' cap seed steps h last close c s run = scheduled_same e e' c hosts hosts' s cap seed steps h last close run
