use Rattle.std.proofs.Common.{refl}
use Rattle.local_types.proofs.Labels.{label_found, label_not, labels_whole}
use Rattle.local_types.proofs.apart.offers.Goals as goal

pub returns-then-eq : goal.returns-then-eq
returns-then-eq c = (λ t. label_found c.args.arms.now c.loop-arm.arm-index _ c.args.label c.eq.result c.loop-arm-test.true c.eq.ensures c.if-eq.true, λ m. refl)

pub loop-arm-preserved : goal.loop-arm-preserved
loop-arm-preserved c = label_not c.args.arms.now c.loop-arm.arm-index _ c.args.label c.eq.result c.loop-arm-test.true c.eq.ensures c.if-eq.false c.loop-arm.invariant

pub returns : goal.returns
returns c = (λ t. absurd (cc), λ m. absurd (c.loop-arm.invariant (labels_whole c.args.arms.now c.loop-arm.arm-index c.args.label c.loop-arm-test.false m)))
