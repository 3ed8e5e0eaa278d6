use Rattle.conform.proofs.Ends.{open_still, over_more, all_over}
use Rattle.conform.proofs.progress.Progress.has_ended.Goals as goal

pub returns-then-not-is_over : goal.returns-then-not-is_over
returns-then-not-is_over c = λ h a. open_still c.args.file.now h c.args.self.now a c.as_slice-session-items.result.now c.loop-session.session-index c.session-item.result c.as_slice-session-items.ensures.value c.loop-session-test.true c.session-item.is c.is_over.result c.is_over.ensures c.if-not-is_over.true

pub loop-session-preserved : goal.loop-session-preserved
loop-session-preserved c = over_more c.args.self.now.types c.args.self.now.sessions.items c.as_slice-session-items.result.now c.loop-session.session-index c.session-item.result c.as_slice-session-items.ensures.value c.loop-session-test.true c.session-item.is c.loop-session.invariant (c.is_over.ensures.0 c.if-not-is_over.false)

pub returns : goal.returns
returns c = λ h a. all_over c.args.file.now h c.args.self.now a c.as_slice-session-items.result.now c.loop-session.session-index c.as_slice-session-items.ensures.value c.loop-session-test.false c.loop-session.invariant
