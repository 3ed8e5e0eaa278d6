use Rattle.projected_programs.proofs.SizedRuns.{run_told}
use Rattle.projected_programs.proofs.telling.all_told.Goals as goal

pub returns : goal.returns
returns c e hosts capacity h last faultless sized meanings run small = run_told e faultless hosts capacity sized meanings h last run small
