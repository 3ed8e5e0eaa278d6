use Rattle.chor_semantics.proofs.Determined.{steps_agree}
use Rattle.chor_semantics.proofs.one_next.Goals as goal

pub returns : goal.returns
returns c = steps_agree
