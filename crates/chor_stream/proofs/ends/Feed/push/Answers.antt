use Rattle.std.proofs.Common.{◌∙◌}
use Rattle.chor_stream.proofs.Entries.{prefix_next}
use Rattle.chor_stream.proofs.ends.Feed.push.Goals as goal

pub loop-self-preserved : goal.loop-self-preserved
loop-self-preserved c = (
  prefix_next _ _ _ _ _ c.loop-self.invariant.0 c.loop-self.self.counted c.loop-self-test.true c.index-list-self.is c.if-not-push_one.ensures.pushed,
  c.if-not-push_one.ensures.ring ∙ c.loop-self.invariant.1,
)
