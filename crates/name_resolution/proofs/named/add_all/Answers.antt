use Rattle.name_resolution.proofs.Repeats.{known_turn, known_ends}
use Rattle.name_resolution.proofs.named.add_all.Goals as goal

pub loop-item-preserved : goal.loop-item-preserved
loop-item-preserved g c = known_turn g.T.HasName.name_of _ _ _ _ c.args.items.now c.loop-item.item-index c.item-item.result _ c.named.result c.as_slice-item-items.ensures c.loop-item-test.true c.item-item.is c.named.ensures c.in_ok-add.ensures.names c.loop-item.invariant

pub returns : goal.returns
returns g c = known_ends g.T.HasName.name_of c.loop-item.known _ _ c.args.items.now c.loop-item.item-index c.as_slice-item-items.ensures c.loop-item-test.false c.loop-item.invariant
