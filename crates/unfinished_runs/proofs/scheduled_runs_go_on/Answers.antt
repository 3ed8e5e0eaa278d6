use Rattle.unfinished_runs.proofs.Continuing.{run_can_be_scheduled}
use Rattle.unfinished_runs.proofs.scheduled_runs_go_on.Goals as goal

pub returns : goal.returns
returns c functions e runnable capacity seed steps h n gone = run_can_be_scheduled functions e runnable capacity seed steps h n gone
