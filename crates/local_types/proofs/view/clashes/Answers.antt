use Rattle.std.proofs.Common.{List, ℕ, sym, subst}
use Rattle.state_sets.specs.declared.table.Row.{Row}
use Rattle.state_sets.specs.Table.{IsTorn}
use Rattle.state_sets.proofs.Lists.{item_among, none_more, none_whole}
use Rattle.local_types.proofs.view.clashes.Goals as goal

pub returns-then-has_clash : goal.returns-then-has_clash
returns-then-has_clash c = (c.row-item.result, item_among c.args.rows.now c.loop-row.row-index c.row-item.result c.loop-row-test.true c.row-item.is, subst (λ (l : List ℕ). IsTorn c.args.apart.now l) c.as_slice.ensures.value c.if-has_clash.ensures)

pub loop-row-preserved : goal.loop-row-preserved
loop-row-preserved c = none_more (λ (row : Row). IsTorn c.args.apart.now row.still.items) c.args.rows.now c.loop-row.row-index c.row-item.result c.loop-row-test.true c.row-item.is c.loop-row.invariant
    (λ t. c.if-has_clash.ensures (subst (λ (l : List ℕ). IsTorn c.args.apart.now l) (sym c.as_slice.ensures.value) t))

pub returns : goal.returns
returns c = none_whole (λ (row : Row). IsTorn c.args.apart.now row.still.items) c.args.rows.now c.loop-row.row-index c.loop-row-test.false c.loop-row.invariant
