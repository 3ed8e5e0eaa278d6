use Rattle.state_sets.proofs.Groups.{own_more, covers_more, covers_whole}
use Rattle.state_sets.proofs.graph.acts.Goals as goal

pub loop-item-preserved : goal.loop-item-preserved
loop-item-preserved c = record {
  own = own_more c.args.moves.now c.loop-item.item-index _ c.loop-item.acts.items c.add_act.new.acts.items c.loop-item-test.true c.loop-item.invariant.own c.in_ok-add_act.ensures.own;
  covers = covers_more c.args.moves.now c.loop-item.item-index _ c.loop-item.acts.items c.add_act.new.acts.items c.loop-item-test.true c.loop-item.invariant.covers c.in_ok-add_act.ensures.kept c.in_ok-add_act.ensures.added;
  apart = c.in_ok-add_act.ensures.apart c.loop-item.invariant.apart;
}

pub returns : goal.returns
returns c = record { own = c.loop-item.invariant.own; covers = covers_whole c.args.moves.now c.loop-item.item-index c.loop-item.acts.items c.loop-item-test.false c.loop-item.invariant.covers; apart = c.loop-item.invariant.apart }
