use Rattle.std.proofs.Common.{length, ◌-◌, ◌≡◌}
use mathlib.Core.List.{IsPrefix}
use Rattle.chor_stream.specs.Ends.{feed_ring, pushed_of}
use Rattle.chor_stream.proofs.ends.Feed.push.Given as goal

abbrev pub invariant-loop-self : goal.invariant-loop-self
invariant-loop-self l = IsPrefix (pushed_of l.self) l.list × (feed_ring l.self ≡ feed_ring l.initial.self)

abbrev pub decreases-loop-self : goal.decreases-loop-self
decreases-loop-self l = length l.list - l.self.pushed
