use Rattle.endpoint_laws.proofs.Verdicts.{one_refusal}
use Rattle.endpoint_laws.proofs.one_refusal.Goals as goal

pub returns : goal.returns
returns c = one_refusal
