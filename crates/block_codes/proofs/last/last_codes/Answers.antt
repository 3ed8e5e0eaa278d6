use Rattle.std.proofs.Common.{[], ◌∙◌, sym, subst, arith}
use Rattle.std.specs.List.{AllZip}
use Rattle.chor_base.specs.declared.names.NameId.{NameId}
use Rattle.branch_merge.proofs.ArmTables.{keeps_both, code_kept, kept_length}
use Rattle.block_codes.specs.Parts.{IsCalled}
use Rattle.block_codes.proofs.Parts.{called_more}
use Rattle.block_codes.proofs.last.last_codes.Goals as goal

pub loop-process-init : goal.loop-process-init
loop-process-init c =
    let e = c.in_ok-end.ensures in
    record {
      kept = e.kept;
      inside = e.inside;
      ends = e.code;
      each = subst (AllZip (IsCalled c.args.spot.now.file.now.procs c.args.spot.now.node.now.form c.put_end.new.code.nodes) []) (sym c.new-codes.ensures) tt;
    }

abbrev none : NameId
none = record { 0 = 0 }

pub loop-process-preserved : goal.loop-process-preserved
loop-process-preserved c =
    let v = c.loop-process.invariant in
    let p = c.in_ok-id.ensures in
    record {
      kept = keeps_both v.kept p.kept;
      inside = let n = kept_length p.kept in let m = v.inside in omega arith;
      ends = code_kept c.in_ok-end.end p.kept v.inside ∙ v.ends;
      each = called_more c.args.scope.now c.loop-process.process-index none c.loop-process.codes _ _ c.loop-process-test.true v.each p c.in_ok-push.ensures.ok;
    }
