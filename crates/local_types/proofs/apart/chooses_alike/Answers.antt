use Rattle.local_types.proofs.Labels.{same_unless}
use Rattle.local_types.proofs.apart.chooses_alike.Goals as goal

pub returns-else-ne : goal.returns-else-ne
returns-else-ne c = (λ t f. c.same_labels.ensures.0 t, λ g. c.same_labels.ensures.1 (g (same_unless c.args.from c.args.role c.if-ne.ensures)))
