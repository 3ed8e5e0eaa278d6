use Rattle.projected_programs.proofs.SizedRuns.{short_run_told}
use Rattle.projected_programs.proofs.telling.few_told.Goals as goal

pub returns : goal.returns
returns c e hosts capacity h last faultless sized meanings run short = short_run_told e faultless hosts capacity sized meanings h last run short
