use Rattle.std.proofs.Common.{List, ℕ, sym, subst}
use Rattle.state_sets.specs.declared.table.Row.{Row}
use Rattle.state_sets.specs.Sets.{HasTwo}
use Rattle.state_sets.proofs.Lists.{item_among, none_more, none_whole}
use Rattle.local_types.proofs.view.are_crowded.Goals as goal

pub returns-then-has_two : goal.returns-then-has_two
returns-then-has_two c = (c.row-item.result, item_among c.args.rows.now c.loop-row.row-index c.row-item.result c.loop-row-test.true c.row-item.is, subst (λ (l : List ℕ). HasTwo l) c.as_slice.ensures.value c.if-has_two.ensures)

pub loop-row-preserved : goal.loop-row-preserved
loop-row-preserved c = none_more (λ (row : Row). HasTwo row.still.items) c.args.rows.now c.loop-row.row-index c.row-item.result c.loop-row-test.true c.row-item.is c.loop-row.invariant
    (λ t. c.if-has_two.ensures (subst (λ (l : List ℕ). HasTwo l) (sym c.as_slice.ensures.value) t))

pub returns : goal.returns
returns c = none_whole (λ (row : Row). HasTwo row.still.items) c.args.rows.now c.loop-row.row-index c.loop-row-test.false c.loop-row.invariant
