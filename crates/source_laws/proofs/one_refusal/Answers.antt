use Rattle.source_check.proofs.OneFault.{one_refusal}
use Rattle.source_laws.proofs.one_refusal.Goals as goal

pub returns : goal.returns
returns c = one_refusal
