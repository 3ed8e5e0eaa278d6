use Rattle.source_check.proofs.OneFault.{never_refused}
use Rattle.source_laws.proofs.never_both.Goals as goal

pub returns : goal.returns
returns c = never_refused
