use Rattle.state_sets.proofs.Parts.{empty_more, count_more}
use Rattle.state_sets.proofs.graph.no_parts.Goals as goal

pub loop-preserved : goal.loop-preserved
loop-preserved c = record {
  size = count_more c.loop.parts.items c.push.new.self.items c.new-part.result c.loop.counter c.in_ok-push.ensures.items c.loop.invariant.size;
  empty = empty_more c.loop.parts.items c.push.new.self.items c.new-part.result c.new-part.ensures.items c.in_ok-push.ensures.items c.loop.invariant.empty;
}
