use Rattle.std.proofs.Common.{◌<◌, ◌∙◌, List, length, get_or, ap, subst, arith}
use Rattle.endpoint_code.specs.declared.code.CodeId.{CodeId}
use Rattle.branch_merge.proofs.ArmTables.{keeps_both, kept_length}
use Rattle.renamed_codes.specs.Renames.{IsNodeRenamed}
use Rattle.renamed_codes.proofs.Renames.{turn_inside, turn_codes, to_length, pushed_answer, child_before, all_codes}
use Rattle.renamed_codes.proofs.walk.+rename.Goals as goal

abbrev none : CodeId
none = record { 0 = 0 }

pub rename-requires : goal.rename-requires
rename-requires t c =
    let before = child_before c.args.id c.args.code.now.nodes c.at.result.now c.args.code.now.closed c.at.ensures c.as_slice-child-items.result.now (c.as_slice-child-items.ensures ∙ c.in_ok-children.ensures) c.loop-child.child-index none c.loop-child-test.true in
    let n = kept_length c.loop-child.invariant.kept in
    let within = c.requires in
    (omega arith, omega arith)

pub loop-child-preserved : goal.loop-child-preserved
loop-child-preserved t c =
    let items = c.as_slice-child-items.result.now in
    let i = c.loop-child.child-index in
    let v = c.loop-child.invariant in
    let before = child_before c.args.id c.args.code.now.nodes c.at.result.now c.args.code.now.closed c.at.ensures items (c.as_slice-child-items.ensures ∙ c.in_ok-children.ensures) i none c.loop-child-test.true in
    let within = c.requires in
    let lt : (get_or items i none).0 < length c.args.code.now.nodes = omega arith in
    let r = c.in_ok-renamed.ensures in
    record {
      kept = keeps_both v.kept r.kept;
      inside = turn_inside c.args.names.now items i none c.loop-child-test.true v.kept c.loop-child.to c.push.new.self c.in_ok-renamed.renamed lt v.inside r c.in_ok-push.ensures.ok;
      codes = turn_codes c.args.names.now items i none c.loop-child-test.true v.kept c.loop-child.to c.push.new.self c.in_ok-renamed.renamed lt v.inside r c.in_ok-push.ensures.ok v.codes;
    }

pub renamed_node-requires : goal.renamed_node-requires
renamed_node-requires t c =
    let items = c.as_slice-child-items.result.now in
    ap length c.as_slice.ensures
    ∙ to_length c.args.names.now c.args.id c.at.result.now c.at-2.result.now c.args.code.now.closed c.requires c.at.ensures c.at-2.ensures c.loop-child.invariant.kept items c.loop-child.to
    (c.as_slice-child-items.ensures ∙ c.in_ok-children.ensures) (all_codes c.args.names.now c.args.code.now.nodes c.loop-child.code.nodes items c.loop-child.child-index c.loop-child.to c.loop-child-test.false c.loop-child.invariant.codes)

pub returns : goal.returns
returns t c =
    let items = c.as_slice-child-items.result.now in
    pushed_answer c.args.names.now c.args.code.now.nodes c.loop-child.code.nodes c.push-2.new.self.nodes c.args.id c.at.result.now c.at-2.result.now c.in_ok-node.node c.args.code.now.closed c.requires c.at.ensures c.at-2.ensures c.loop-child.invariant.kept
    items c.loop-child.to (c.as_slice-child-items.ensures ∙ c.in_ok-children.ensures)
    (all_codes c.args.names.now c.args.code.now.nodes c.loop-child.code.nodes items c.loop-child.child-index c.loop-child.to c.loop-child-test.false c.loop-child.invariant.codes)
    (subst (λ (l : List CodeId). IsNodeRenamed c.args.names.now c.at-2.result.now l c.in_ok-node.node) c.as_slice.ensures c.in_ok-node.ensures) c.push-2.result c.push-2.ensures.ok
