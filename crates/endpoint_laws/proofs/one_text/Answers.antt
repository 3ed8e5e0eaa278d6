use Rattle.endpoint_laws.proofs.Verdicts.{one_text}
use Rattle.endpoint_laws.proofs.one_text.Goals as goal

pub returns : goal.returns
returns c = one_text
