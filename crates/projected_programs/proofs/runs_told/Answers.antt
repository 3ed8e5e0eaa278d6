use Rattle.projected_programs.proofs.ToldRuns.{runs_told, short_runs_told}
use Rattle.projected_programs.proofs.runs_told.Goals as goal

pub returns : goal.returns
returns g c = record { all = runs_told c.args._hosts.now; short = short_runs_told c.args._hosts.now }
