use Rattle.state_sets.specs.declared.table.Row.{Row}
use Rattle.state_sets.specs.Table.{IsLeft}
use Rattle.state_sets.proofs.Lists.{item_among, none_more, none_whole}
use Rattle.local_types.proofs.view.leaves_behind.Goals as goal

pub returns-then-is_left : goal.returns-then-is_left
returns-then-is_left c = (c.row-item.result, item_among c.args.rows.now c.loop-row.row-index c.row-item.result c.loop-row-test.true c.row-item.is, c.if-is_left.ensures)

pub loop-row-preserved : goal.loop-row-preserved
loop-row-preserved c = none_more (λ (row : Row). IsLeft c.args.circling.now c.args.named.now row) c.args.rows.now c.loop-row.row-index c.row-item.result c.loop-row-test.true c.row-item.is c.loop-row.invariant c.if-is_left.ensures

pub returns : goal.returns
returns c = none_whole (λ (row : Row). IsLeft c.args.circling.now c.args.named.now row) c.args.rows.now c.loop-row.row-index c.loop-row-test.false c.loop-row.invariant
