use Rattle.conform.proofs.Walks.{one_further, astray_there}
use Rattle.conform.proofs.judging.judged.Goals as goal

pub returns-then-not-branch : goal.returns-then-not-branch
returns-then-not-branch c = astray_there c.args.file.now c.args.events.now c.loop-place.place c.index-events-place.result c.loop-place.progress c.follow.new.self c.follow.result c.in_ok-follow.field-0 c.loop-place-test.true c.index-events-place.is c.loop-place.invariant c.follow.ensures c.in_ok-follow.was c.if-not-branch.true

pub loop-place-preserved : goal.loop-place-preserved
loop-place-preserved c = one_further c.args.file.now c.args.events.now c.loop-place.place c.index-events-place.result c.loop-place.progress c.follow.new.self c.follow.result c.in_ok-follow.field-0 c.loop-place-test.true c.index-events-place.is c.loop-place.invariant c.follow.ensures c.in_ok-follow.was c.if-not-branch.false
