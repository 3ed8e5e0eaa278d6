use Rattle.conform.proofs.Labelled.{label_found, label_not, no_label}
use Rattle.conform.proofs.moves.chosen.Goals as goal

pub returns-then-eq : goal.returns-then-eq
returns-then-eq c = label_found c.args.labels.now c.loop-other.other-index _ c.args.label c.eq.result c.loop-other-test.true c.eq.ensures c.if-eq.true

pub loop-other-preserved : goal.loop-other-preserved
loop-other-preserved c = label_not c.args.labels.now c.loop-other.other-index _ c.args.label c.eq.result c.loop-other-test.true c.eq.ensures c.if-eq.false c.loop-other.invariant

pub returns : goal.returns
returns c = no_label c.args.labels.now c.loop-other.other-index c.args.label c.loop-other-test.false c.loop-other.invariant
