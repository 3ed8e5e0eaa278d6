use Rattle.local_types.proofs.NamedLabels.{one_text}
use Rattle.local_types.proofs.laws.one_text.Goals as goal

pub returns : goal.returns
returns c = λ names ss r distinct named. one_text names ss r distinct named
