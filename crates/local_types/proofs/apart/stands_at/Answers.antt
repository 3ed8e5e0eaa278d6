use Rattle.local_types.proofs.Labels.{label_found}
use Rattle.local_types.proofs.apart.stands_at.Goals as goal

pub returns-then-place-arms : goal.returns-then-place-arms
returns-then-place-arms c = λ t. label_found c.args.arms.now c.args.place _ c.args.label c.eq.result c.if-place-arms.true c.eq.ensures t
