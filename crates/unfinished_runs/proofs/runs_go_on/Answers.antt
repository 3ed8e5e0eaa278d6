use Rattle.unfinished_runs.proofs.Continuing.{run_goes_on}
use Rattle.unfinished_runs.proofs.runs_go_on.Goals as goal

pub returns : goal.returns
returns c functions e runnable capacity h n run seed steps fits = run_goes_on functions e runnable capacity seed steps h n run fits
