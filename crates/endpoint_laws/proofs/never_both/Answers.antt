use Rattle.endpoint_laws.proofs.Verdicts.{never_refused}
use Rattle.endpoint_laws.proofs.never_both.Goals as goal

pub returns : goal.returns
returns c = never_refused
