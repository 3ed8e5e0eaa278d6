use Rattle.projected_programs.proofs.Verdicts.{programs_or_refused}
use Rattle.projected_programs.proofs.accepted_or_refused.Goals as goal

pub returns : goal.returns
returns c = programs_or_refused
