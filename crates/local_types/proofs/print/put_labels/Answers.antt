use Rattle.std.specs.Prelude.{codes}
use Rattle.local_types.proofs.Appends.{literal, label_more}
use Rattle.local_types.proofs.print.put_labels.Goals as goal

pub loop-label-preserved : goal.loop-label-preserved
loop-label-preserved c =
    let old = c.loop-label.text.items in
    let one = c.put_bytes.new.out.items in
    let space = literal old one c.as_slice.result.now (codes " ") c.in_ok-put_bytes.ensures.ok c.as_slice.ensures in
    label_more c.args.names.now c.args.labels.now c.loop-label.label-index _ old one c.put_name.new.out.items c.put_next.new.text.items _ c.loop-label-test.true space c.in_ok-put_name.ensures.ok c.in_ok-put_next.ensures c.loop-label.invariant
