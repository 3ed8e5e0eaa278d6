use Rattle.std.proofs.Common.{◌<◌, ◌∙◌, Err, length, ap, refl, arith}
use Rattle.std.proofs.lemmas.List.Elements.{All-same}
use Rattle.chor_tree.specs.declared.tree.NodeId.{NodeId}
use Rattle.endpoint_code.specs.declared.code.CodeId.{CodeId}
use Rattle.endpoint_code.specs.Labels.{HasDistinctLabels}
use Rattle.endpoint_code.specs.Trees.{code_at}
use Rattle.branch_merge.proofs.ArmTables.{keeps_both}
use Rattle.service_codes.proofs.Codes.{starts_more, all_started, codes_some, codes_inside, codes_distinct, service_coded, service_clash}
use Rattle.service_codes.proofs.service.service_code.Goals as goal

abbrev none : NodeId
none = record { 0 = 0 }

pub loop-start-preserved : goal.loop-start-preserved
loop-start-preserved c = record {
  kept = keeps_both c.loop-start.invariant.kept c.in_ok-id.ensures.kept;
  each =
      starts_more c.args.file.now c.args.served c.args.starts.now c.loop-start.start-index none c.loop-start.list _ _ c.loop-start-test.true c.loop-start.invariant.each c.in_ok-id.ensures c.in_ok-push.ensures.ok;
}

pub merge_all-requires-clause-some : goal.merge_all-requires-clause-some
merge_all-requires-clause-some c =
    let z = all_started c.args.file.now c.args.served c.loop-start.code.nodes c.args.starts.now c.loop-start.start-index c.loop-start.list c.loop-start-test.false c.loop-start.invariant.each in
    let some = codes_some c.args.file.now c.args.served c.loop-start.code.nodes c.args.starts.now c.loop-start.list c.requires.some z in
    let same = ap length c.as_slice.ensures in
    omega arith

pub merge_all-requires-clause-inside : goal.merge_all-requires-clause-inside
merge_all-requires-clause-inside c =
    let z = all_started c.args.file.now c.args.served c.loop-start.code.nodes c.args.starts.now c.loop-start.start-index c.loop-start.list c.loop-start-test.false c.loop-start.invariant.each in
    All-same (λ (i : CodeId). i.0 < length c.loop-start.code.nodes) c.as_slice.result.now c.loop-start.list c.as_slice.ensures
    (codes_inside c.args.file.now c.args.served c.loop-start.code.nodes c.args.starts.now c.loop-start.list z)

pub merge_all-requires-clause-distinct : goal.merge_all-requires-clause-distinct
merge_all-requires-clause-distinct c =
    let z = all_started c.args.file.now c.args.served c.loop-start.code.nodes c.args.starts.now c.loop-start.start-index c.loop-start.list c.loop-start-test.false c.loop-start.invariant.each in
    All-same (λ (i : CodeId). HasDistinctLabels (code_at c.loop-start.code.nodes i)) c.as_slice.result.now c.loop-start.list c.as_slice.ensures
    (codes_distinct c.args.file.now c.args.served c.loop-start.code.nodes c.args.starts.now c.loop-start.list z)

pub returns-in-Ok-clause-code : goal.returns-in-Ok-clause-code
returns-in-Ok-clause-code c =
    let z = all_started c.args.file.now c.args.served c.loop-start.code.nodes c.args.starts.now c.loop-start.start-index c.loop-start.list c.loop-start-test.false c.loop-start.invariant.each in
    service_coded c.args.file.now c.args.served c.loop-start.code.nodes c.args.starts.now c.requires.starts c.loop-start.list c.as_slice.result.now c.as_slice.ensures z
    c.in-Ok.id c.loop-start.invariant.kept c.in-Ok.ensures.kept c.in-Ok.ensures.merged

pub returns-in-Err-Clash-clause-stopped : goal.returns-in-Err-Clash-clause-stopped
returns-in-Err-Clash-clause-stopped c =
    let z = all_started c.args.file.now c.args.served c.loop-start.code.nodes c.args.starts.now c.loop-start.start-index c.loop-start.list c.loop-start-test.false c.loop-start.invariant.each in
    service_clash c.args.file.now c.args.served c.loop-start.code.nodes c.args.starts.now c.requires.starts c.loop-start.list c.as_slice.result.now c.as_slice.ensures z
    _ _ refl refl (c.merge_all.ensures.clash (c.in-Err-Clash.is ∙ ap Err c.in-Err-Clash.field-0-is))
