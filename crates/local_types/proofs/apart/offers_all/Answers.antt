use Rattle.std.proofs.Common.{refl}
use Rattle.local_types.proofs.Labels.{labels_more, labels_whole, label_at, not_both}
use Rattle.local_types.proofs.apart.offers_all.Goals as goal

pub returns-then-not-offers_near : goal.returns-then-not-offers_near
returns-then-not-offers_near c = (λ t. absurd (cc), λ all. absurd (not_both c.offers_near.result (c.offers_near.ensures.1 (all _ (label_at c.args.arms.now c.loop-number.number _ c.loop-number-test.true))) c.if-not-offers_near.true))

pub loop-number-preserved : goal.loop-number-preserved
loop-number-preserved c = labels_more c.args.arms.now c.args.others.now c.loop-number.number _ c.loop-number-test.true (c.offers_near.ensures.0 c.if-not-offers_near.false) c.loop-number.invariant

pub returns : goal.returns
returns c = (λ t l m. c.loop-number.invariant l (labels_whole c.args.arms.now c.loop-number.number l c.loop-number-test.false m), λ all. refl)
