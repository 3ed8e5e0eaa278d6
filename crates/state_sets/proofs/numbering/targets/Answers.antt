use Rattle.std.proofs.Common.{length}
use Rattle.state_sets.proofs.Sets.{tested_in, tested_out}
use Rattle.state_sets.proofs.Tables.{target_in, target_out, target_begins, target_whole}
use Rattle.state_sets.proofs.numbering.targets.Goals as goal
use Rattle.state_sets.proofs.numbering.targets.Goals.{then-has, else-has}

pub loop-edge-init : goal.loop-edge-init
loop-edge-init c = target_begins (length c.args.still.now) c.args.still.now c.args.edges.now c.in_ok-after.after.items c.in_ok-after.ensures

pub loop-edge-preserved : goal.loop-edge-preserved
loop-edge-preserved c = elim c.if-has.branch [
  | then-has w ↦ rw (w.after-is, w.put.ensures) (target_in (length c.args.still.now) c.args.still.now c.args.edges.now c.loop-edge.edge-index _ c.loop-edge.after.items c.loop-edge-test.true c.requires (tested_in c.args.still.now _ c.has.result c.has.ensures w.if-has.true) c.loop-edge.invariant)
  | else-has w ↦ rw w.after-is (target_out (length c.args.still.now) c.args.still.now c.args.edges.now c.loop-edge.edge-index _ c.loop-edge.after.items c.loop-edge-test.true (tested_out c.args.still.now _ c.has.result c.has.ensures w.if-has.false) c.loop-edge.invariant)
]

pub returns : goal.returns
returns c = target_whole (length c.args.still.now) c.args.still.now c.args.edges.now c.loop-edge.edge-index c.loop-edge.after.items c.loop-edge-test.false c.loop-edge.invariant
