use Rattle.std.proofs.Common.{sym, ◌∙◌, length}
use Rattle.state_sets.proofs.Sets.{row_is, union_in, union_out, union_whole, tested_in, tested_out}
use Rattle.state_sets.proofs.marks.union.Goals as goal
use Rattle.state_sets.proofs.marks.union.Goals.{then-has, else-has}

pub loop-state-preserved : goal.loop-state-preserved
loop-state-preserved c =
    let marks = c.args.marks.now in
    let rows = c.args.rows.now in
    let k = c.loop-state.state in
    elim c.if-has.branch [
      | then-has w ↦ rw w.all-is (union_in (length marks) marks rows k c.loop-state.all.items w.put_all.new.marks.items w.as_slice.result.now
          (row_is rows k c.index-rows-state.result c.loop-state-test.true c.index-rows-state.is ∙ sym w.as_slice.ensures.value)
          (tested_in marks k c.has.result c.has.ensures w.if-has.true)
          w.put_all.ensures.len w.put_all.ensures.bytes (c.requires k) c.loop-state.invariant)
      | else-has w ↦ rw w.all-is (union_out (length marks) marks rows k c.loop-state.all.items (tested_out marks k c.has.result c.has.ensures w.if-has.false) c.loop-state.invariant)
    ]

pub returns : goal.returns
returns c = union_whole (length c.args.marks.now) c.args.marks.now c.args.rows.now c.loop-state.state c.loop-state.all.items c.loop-state-test.false c.loop-state.invariant
