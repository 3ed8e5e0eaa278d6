use Rattle.state_sets.proofs.Singles.{none_more, one_longer}
use Rattle.state_sets.proofs.numbering.no_sets.Goals as goal

pub loop-preserved : goal.loop-preserved
loop-preserved c = record {
  size = one_longer c.loop.singles.items c.push.new.self.items c.loop.counter c.in_ok-push.ensures.items c.loop.invariant.size;
  none = none_more c.loop.singles.items c.push.new.self.items c.in_ok-push.ensures.items c.loop.invariant.none;
}
