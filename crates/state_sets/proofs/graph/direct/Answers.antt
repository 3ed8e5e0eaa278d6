use Rattle.state_sets.proofs.Groups.{not_both}
use Rattle.state_sets.proofs.Direct.{from_within, direct_begins, direct_more, direct_same, direct_whole}
use Rattle.state_sets.proofs.graph.direct.Goals as goal
use Rattle.state_sets.proofs.graph.direct.Goals.{then-is_silent, else-is_silent}

pub loop-item-init : goal.loop-item-init
loop-item-init c = direct_begins c.args.count c.args.moves.now c.in_ok-rows.rows.items c.in_ok-rows.ensures

pub put_in_row-requires : goal.put_in_row-requires
put_in_row-requires c = from_within c.args.count c.args.moves.now c.loop-item.item-index _ _ c.loop-item.invariant.size c.loop-item-test.true c.requires

pub loop-item-preserved : goal.loop-item-preserved
loop-item-preserved c = elim c.if-is_silent.branch [
  | then-is_silent w ↦ rw w.rows-is (direct_more c.args.count c.args.moves.now c.loop-item.item-index _ c.loop-item.rows.items w.put_in_row.new.rows.items c.loop-item-test.true c.requires (c.is_silent.ensures.0 w.if-is_silent.true) c.loop-item.invariant w.put_in_row.ensures)
  | else-is_silent w ↦ rw w.rows-is (direct_same c.args.count c.args.moves.now c.loop-item.item-index _ c.loop-item.rows.items c.loop-item-test.true (λ p. not_both c.is_silent.result (c.is_silent.ensures.1 p) w.if-is_silent.false) c.loop-item.invariant)
]

pub returns : goal.returns
returns c = direct_whole c.args.count c.args.moves.now c.loop-item.item-index c.loop-item.rows.items c.loop-item-test.false c.loop-item.invariant
