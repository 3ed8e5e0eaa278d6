use Rattle.program_runs.proofs.Alike.{run_alike, end_alike}
use Rattle.program_runs.proofs.laws.sources_run_alike.Goals as goal

pub returns-clause-run : goal.returns-clause-run
returns-clause-run c = run_alike

pub returns-clause-end : goal.returns-clause-end
returns-clause-end c = end_alike
