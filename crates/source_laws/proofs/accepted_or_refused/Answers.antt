use Rattle.source_laws.proofs.Verdicts.{accepted_or_refused}
use Rattle.source_laws.proofs.accepted_or_refused.Goals as goal

pub returns : goal.returns
returns c = accepted_or_refused
