use Rattle.branch_merge.proofs.ArmTables.{keeps_both}
use Rattle.block_codes.specs.declared.coded.Coded.{Coded}
use Rattle.block_codes.proofs.Parts.{puts_keeps, put_more}
use Rattle.block_codes.proofs.statement.put_parts.Goals as goal

abbrev none : Coded
none = record { process = record { 0 = 0 }; code = record { 0 = 0 } }

pub loop-coded-preserved : goal.loop-coded-preserved
loop-coded-preserved c =
    let v = c.loop-coded.invariant in
    let p = c.in_ok-id.ensures in
    record {
      kept = keeps_both v.kept (puts_keeps p);
      each =
          put_more c.args.form.now c.args.list.now c.loop-coded.coded-index none c.loop-coded.codes _ _ c.loop-coded-test.true v.kept v.each
          (c.requires c.loop-coded.coded-index none c.loop-coded-test.true) p c.in_ok-push.ensures.ok;
    }
