use Rattle.unfinished_runs.proofs.Continuing.{run_can_be_closed}
use Rattle.unfinished_runs.proofs.runs_can_be_closed.Goals as goal

pub returns : goal.returns
returns c functions e runnable capacity h n run steps fits = run_can_be_closed functions e runnable capacity h n run steps fits
