use Rattle.std.proofs.lemmas.List.{get_or_default}
use Rattle.branch_merge.proofs.ArmTables.{keeps_both}
use Rattle.file_codes.proofs.Appended.{found_more}
use Rattle.file_codes.proofs.prepared.prepared_codes.Goals as goal

pub loop-process-preserved : goal.loop-process-preserved
loop-process-preserved c =
    let behind = c.in_ok-put.ensures.table in
    let same = c.is_of.ensures.0 c.if-not-is_of.false in
    record {
      kept = keeps_both c.loop-process.invariant.kept (record { more = behind.more; is = behind.is });
      found = found_more c.args.file.now c.args.id c.args.scope.now c.loop-process.process-index _ c.in-Some.unit.now c.loop-process.code.nodes c.append_unit.new.code.nodes c.loop-process.list c.push.new.self c.in_ok-put.put
          c.loop-process-test.true (get_or_default c.args.scope.now c.loop-process.process-index _ _ c.loop-process-test.true) c.loop-process.invariant.found c.in-Some.ensures same.0 same.1 behind c.in_ok-put.ensures.id c.in_ok-push.ensures.ok;
    }
