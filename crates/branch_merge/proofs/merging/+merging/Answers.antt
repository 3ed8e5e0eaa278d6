use Rattle.std.proofs.Common.{◌≡◌, ◌<◌, arith, sym, ap, ◌∙◌, subst, false, length, List, slice_index_or, ◌++◌}
use Rattle.std.proofs.lemmas.Result.{IfOk-from_err}
use Rattle.chor_base.specs.declared.names.NameId.{NameId}
use Rattle.endpoint_code.specs.declared.code.CodeId.{CodeId}
use Rattle.endpoint_code.specs.Labels.{has_label}
use Rattle.endpoint_code.specs.Trees.{trees_of}
use Rattle.branch_merge.specs.Merging.{arms_at, IsMeetingAt, OfferSame}
use Rattle.branch_merge.proofs.ArmTables.{keeps_all, keeps_both, keeps_pushed, keeps_still, kept_length, taken_out, other_holds}
use Rattle.branch_merge.proofs.Merges.{inside_before, inside_later, distinct_later, same_merged, next_distinct, next_none, next_there, next_merged, first_distinct, second_distinct, first_none, second_none, is_test_there, forks_again, branches_merged, next_inside, fork_inside, arms_none, arms_merged, children_inside, same_fault, no_clash, no_fault, takes_alone, takes_paired, stuck_there, other_distinct, id_same}
use Rattle.branch_merge.proofs.ArmsLoop.{next_arm, arm_distinct, rest_distinct, loop_stuck, loop_more, made_more, made_inside, made_all}
use Rattle.branch_merge.proofs.merging.+merging.Goals as goal

-- ---- after an action

pub merge_next-merge-requires : goal.merge_next-merge-requires
merge_next-merge-requires t c =
    let d = next_distinct c.requires.same (c.requires.left, c.requires.right) in
    let b = c.requires.same.before in
    let i = inside_before c.requires.inside b in
    let l = b.left in
    let r = b.right in
    (omega arith, (i.left, (i.right, (d.0, d.1))))

pub merge_next-node_at-requires : goal.merge_next-node_at-requires
merge_next-node_at-requires t c = (inside_later c.in_ok-id.ensures.kept c.requires.inside).left

pub merge_next-with_next-requires : goal.merge_next-with_next-requires
merge_next-with_next-requires t c = next_there c.requires.same c.node_at.result.now c.requires.inside c.in_ok-id.ensures.kept c.node_at.ensures.tree

pub merge_next-returns-in_err-id-clause-clash : goal.merge_next-returns-in_err-id-clause-clash
merge_next-returns-in_err-id-clause-clash t c e = next_none c.requires.same (c.in_err-id.ensures.clash (same_fault CodeId c.from_residual.result _ _ c.from_residual.ensures.1 e))

pub merge_next-push-requires : goal.merge_next-push-requires
merge_next-push-requires t c = next_inside (length c.merge.new.code.nodes) c.in_ok-node.node c.in_ok-id.id c.in_ok-node.ensures.next c.in_ok-id.ensures.merged.inside

pub merge_next-returns-clause-kept : goal.merge_next-returns-clause-kept
merge_next-returns-clause-kept t c = keeps_both c.in_ok-id.ensures.kept (keeps_pushed c.in_ok-node.node c.in_ok-push.ensures.ok.1)

pub merge_next-returns-clause-merged : goal.merge_next-returns-clause-merged
merge_next-returns-clause-merged t c =
    next_merged c.requires.same c.merge.new.code.nodes c.push.new.self.nodes c.in_ok-id.id c.in_ok-push.field-0 c.node_at.result.now c.in_ok-node.node c.requires.inside
    c.in_ok-id.ensures.kept c.in_ok-id.ensures.merged c.node_at.ensures.tree c.in_ok-node.ensures.head c.in_ok-node.ensures.next c.in_ok-push.ensures.ok.0 c.in_ok-push.ensures.ok.1

pub merge_next-returns-in_err-id-clause-merged : goal.merge_next-returns-in_err-id-clause-merged
merge_next-returns-in_err-id-clause-merged t c = IfOk-from_err c.from_residual.result _ c.from_residual.ensures.0

pub merge_next-returns-in_err-id-clause-kept : goal.merge_next-returns-in_err-id-clause-kept
merge_next-returns-in_err-id-clause-kept t c = c.in_err-id.ensures.kept

pub merge_next-returns-in_err-node-clause-merged : goal.merge_next-returns-in_err-node-clause-merged
merge_next-returns-in_err-node-clause-merged t c = IfOk-from_err c.from_residual-in_err-node.result _ c.from_residual-in_err-node.ensures.0

pub merge_next-returns-in_err-node-clause-clash : goal.merge_next-returns-in_err-node-clause-clash
merge_next-returns-in_err-node-clause-clash t c e = no_clash c.from_residual-in_err-node.result c.from_residual-in_err-node.ensures.1 e

pub merge_next-returns-in_err-node-clause-kept : goal.merge_next-returns-in_err-node-clause-kept
merge_next-returns-in_err-node-clause-kept t c = c.in_ok-id.ensures.kept

pub merge_next-returns-in_err-push-clause-merged : goal.merge_next-returns-in_err-push-clause-merged
merge_next-returns-in_err-push-clause-merged t c = IfOk-from_err c.from_residual-in_err-push.result _ c.from_residual-in_err-push.ensures.0

pub merge_next-returns-in_err-push-clause-clash : goal.merge_next-returns-in_err-push-clause-clash
merge_next-returns-in_err-push-clause-clash t c e = no_clash c.from_residual-in_err-push.result c.from_residual-in_err-push.ensures.1 e

pub merge_next-returns-in_err-push-clause-kept : goal.merge_next-returns-in_err-push-clause-kept
merge_next-returns-in_err-push-clause-kept t c = keeps_still c.in_ok-id.ensures.kept c.in_err-push.ensures.err

pub merge_next-returns-clause-clash : goal.merge_next-returns-clause-clash
merge_next-returns-clause-clash t c e = no_fault e

-- ---- after a test

pub merge_branches-merge-requires : goal.merge_branches-merge-requires
merge_branches-merge-requires t c =
    let d = first_distinct c.requires.same (c.requires.left, c.requires.right) in
    let b = c.requires.same.first_before in
    let i = inside_before c.requires.inside b in
    let l = b.left in
    let r = b.right in
    (omega arith, (i.left, (i.right, (d.0, d.1))))

pub merge_branches-merge-requires-2 : goal.merge_branches-merge-requires-2
merge_branches-merge-requires-2 t c =
    let k = c.in_ok-holds.ensures.kept in
    let b = c.requires.same.second_before in
    let i = inside_before c.requires.inside b in
    let d = distinct_later k i (second_distinct c.requires.same (c.requires.left, c.requires.right)) in
    let j = inside_later k i in
    let l = b.left in
    let r = b.right in
    (omega arith, (j.left, (j.right, (d.0, d.1))))

pub merge_branches-node_at-requires : goal.merge_branches-node_at-requires
merge_branches-node_at-requires t c = (inside_later (keeps_both c.in_ok-holds.ensures.kept c.in_ok-fails.ensures.kept) c.requires.inside).left

pub merge_branches-with_branches-requires : goal.merge_branches-with_branches-requires
merge_branches-with_branches-requires t c =
    is_test_there c.requires.same c.node_at.result.now c.requires.inside (keeps_both c.in_ok-holds.ensures.kept c.in_ok-fails.ensures.kept) c.node_at.ensures.tree

pub merge_branches-push-requires : goal.merge_branches-push-requires
merge_branches-push-requires t c =
    let k = keeps_both c.in_ok-holds.ensures.kept c.in_ok-fails.ensures.kept in
    let n = kept_length c.in_ok-fails.ensures.kept in
    let first = c.in_ok-holds.ensures.merged.inside in
    fork_inside (length c.merge-2.new.code.nodes) c.in_ok-node.node c.in_ok-holds.holds c.in_ok-fails.fails
    (forks_again c.requires.same c.node_at.result.now c.requires.inside k c.node_at.ensures.tree c.in_ok-node.node c.in_ok-holds.holds c.in_ok-fails.fails c.in_ok-node.ensures)
    (omega arith) c.in_ok-fails.ensures.merged.inside

pub merge_branches-returns-clause-kept : goal.merge_branches-returns-clause-kept
merge_branches-returns-clause-kept t c = keeps_both (keeps_both c.in_ok-holds.ensures.kept c.in_ok-fails.ensures.kept) (keeps_pushed c.in_ok-node.node c.in_ok-push.ensures.ok.1)

pub merge_branches-returns-clause-merged : goal.merge_branches-returns-clause-merged
merge_branches-returns-clause-merged t c =
    let k = keeps_both c.in_ok-holds.ensures.kept c.in_ok-fails.ensures.kept in
    branches_merged c.requires.same c.push.new.self.nodes c.in_ok-holds.holds c.in_ok-fails.fails c.in_ok-push.field-0 c.in_ok-node.node
    (inside_before c.requires.inside c.requires.same.second_before) c.in_ok-holds.ensures.kept c.in_ok-fails.ensures.kept c.in_ok-holds.ensures.merged c.in_ok-fails.ensures.merged
    (forks_again c.requires.same c.node_at.result.now c.requires.inside k c.node_at.ensures.tree c.in_ok-node.node c.in_ok-holds.holds c.in_ok-fails.fails c.in_ok-node.ensures)
    c.in_ok-push.ensures.ok.0 c.in_ok-push.ensures.ok.1

pub merge_branches-returns-in_err-holds-clause-clash : goal.merge_branches-returns-in_err-holds-clause-clash
merge_branches-returns-in_err-holds-clause-clash t c e = first_none c.requires.same (c.in_err-holds.ensures.clash (same_fault CodeId c.from_residual.result _ _ c.from_residual.ensures.1 e))

pub merge_branches-returns-in_err-fails-clause-clash : goal.merge_branches-returns-in_err-fails-clause-clash
merge_branches-returns-in_err-fails-clause-clash t c e =
    second_none c.requires.same c.in_ok-holds.ensures.kept (inside_before c.requires.inside c.requires.same.second_before)
    (c.in_err-fails.ensures.clash (same_fault CodeId c.from_residual-in_err-fails.result _ _ c.from_residual-in_err-fails.ensures.1 e))

pub merge_branches-returns-in_err-holds-clause-merged : goal.merge_branches-returns-in_err-holds-clause-merged
merge_branches-returns-in_err-holds-clause-merged t c = IfOk-from_err c.from_residual.result _ c.from_residual.ensures.0

pub merge_branches-returns-in_err-holds-clause-kept : goal.merge_branches-returns-in_err-holds-clause-kept
merge_branches-returns-in_err-holds-clause-kept t c = c.in_err-holds.ensures.kept

pub merge_branches-returns-in_err-fails-clause-merged : goal.merge_branches-returns-in_err-fails-clause-merged
merge_branches-returns-in_err-fails-clause-merged t c = IfOk-from_err c.from_residual-in_err-fails.result _ c.from_residual-in_err-fails.ensures.0

pub merge_branches-returns-in_err-fails-clause-kept : goal.merge_branches-returns-in_err-fails-clause-kept
merge_branches-returns-in_err-fails-clause-kept t c = keeps_both c.in_ok-holds.ensures.kept c.in_err-fails.ensures.kept

pub merge_branches-returns-in_err-node-clause-merged : goal.merge_branches-returns-in_err-node-clause-merged
merge_branches-returns-in_err-node-clause-merged t c = IfOk-from_err c.from_residual-in_err-node.result _ c.from_residual-in_err-node.ensures.0

pub merge_branches-returns-in_err-node-clause-clash : goal.merge_branches-returns-in_err-node-clause-clash
merge_branches-returns-in_err-node-clause-clash t c e = no_clash c.from_residual-in_err-node.result c.from_residual-in_err-node.ensures.1 e

pub merge_branches-returns-in_err-node-clause-kept : goal.merge_branches-returns-in_err-node-clause-kept
merge_branches-returns-in_err-node-clause-kept t c = keeps_both c.in_ok-holds.ensures.kept c.in_ok-fails.ensures.kept

pub merge_branches-returns-in_err-push-clause-merged : goal.merge_branches-returns-in_err-push-clause-merged
merge_branches-returns-in_err-push-clause-merged t c = IfOk-from_err c.from_residual-in_err-push.result _ c.from_residual-in_err-push.ensures.0

pub merge_branches-returns-in_err-push-clause-clash : goal.merge_branches-returns-in_err-push-clause-clash
merge_branches-returns-in_err-push-clause-clash t c e = no_clash c.from_residual-in_err-push.result c.from_residual-in_err-push.ensures.1 e

pub merge_branches-returns-in_err-push-clause-kept : goal.merge_branches-returns-in_err-push-clause-kept
merge_branches-returns-in_err-push-clause-kept t c = keeps_still (keeps_both c.in_ok-holds.ensures.kept c.in_ok-fails.ensures.kept) c.in_err-push.ensures.err

pub merge_branches-returns-clause-clash : goal.merge_branches-returns-clause-clash
merge_branches-returns-clause-clash t c e = no_fault e

-- ---- one arm

pub take-merge-requires : goal.take-merge-requires
take-merge-requires t c =
    let place = c.in-Some.ensures.found in
    let before = other_holds c.remove-other.result place c.as_slice.ensures.value c.remove-other.ensures.value (λ r. r.1.0 < c.args.pair.right.0) c.requires.rest in
    let at = taken_out c.remove-other.result place c.as_slice.ensures.value c.remove-other.ensures.value c.args.code.now.nodes c.remove-other.ensures.items in
    let lt : c.remove-other.result.1.0 < c.args.pair.right.0 = before in
    let ha = c.requires.arm in
    let left = c.requires.inside.left in
    let right = c.requires.inside.right in
    (omega arith, (omega arith, (omega arith, (c.requires.distinct, other_distinct c.args.code.now.nodes c.args.arm c.args.rest.now.items c.remove-other.new.self.items c.remove-other.result.1 at c.requires.distinct_rest))))

pub take-returns-in-None-clause-taken : goal.take-returns-in-None-clause-taken
take-returns-in-None-clause-taken t c =
    let h = c.requires.arm in
    let left = c.requires.inside.left in
    takes_alone c.args.code.now.nodes c.args.arm c.args.rest.now.items (omega arith)
    (subst (λ (ys : List (NameId × CodeId)). has_label c.args.arm.0 (arms_at c.args.code.now.nodes ys) ≡ false) c.as_slice.ensures.value (c.in-None.ensures.absent (trees_of c.args.code.now.nodes)))

pub take-returns-in-Some-clause-clash : goal.take-returns-in-Some-clause-clash
take-returns-in-Some-clause-clash t c e =
    stuck_there c.args.code.now.nodes c.args.arm c.args.rest.now.items c.remove-other.new.self.items c.remove-other.result.1
    (taken_out c.remove-other.result c.in-Some.ensures.found c.as_slice.ensures.value c.remove-other.ensures.value c.args.code.now.nodes c.remove-other.ensures.items) (c.merge.ensures.clash e)

pub take-returns-in-Some-clause-taken : goal.take-returns-in-Some-clause-taken
take-returns-in-Some-clause-taken t c =
    takes_paired c.args.code.now.nodes c.args.arm c.args.rest.now.items c.remove-other.new.self.items c.remove-other.result.1
    (taken_out c.remove-other.result c.in-Some.ensures.found c.as_slice.ensures.value c.remove-other.ensures.value c.args.code.now.nodes c.remove-other.ensures.items)
    c.merge.new.code.nodes c.merge.result c.merge.ensures.merged

pub take-returns-in-None-clause-left : goal.take-returns-in-None-clause-left
take-returns-in-None-clause-left t c = c.requires.rest

pub take-returns-in-None-clause-clash : goal.take-returns-in-None-clause-clash
take-returns-in-None-clause-clash t c e = no_fault e

pub take-returns-in-None-clause-kept : goal.take-returns-in-None-clause-kept
take-returns-in-None-clause-kept t c = keeps_all _

pub take-returns-in-Some-clause-kept : goal.take-returns-in-Some-clause-kept
take-returns-in-Some-clause-kept t c = c.merge.ensures.kept

-- ---- two codes

pub merge-push-requires : goal.merge-push-requires
merge-push-requires t c = children_inside (length c.merge_arms.new.code.nodes) c.in_ok-arms-in-Arms.arms c.in_ok-arms-in-Arms.ensures.merged.inside

pub merge-returns-in-Alike-clause-merged : goal.merge-returns-in-Alike-clause-merged
merge-returns-in-Alike-clause-merged t c =
    same_merged c.args.code.now.nodes c.args.a c.args.b c.requires.a c.requires.distinct_a
    (subst (IsMeetingAt c.args.code.now.nodes (record { left = c.args.a; right = c.args.b })) c.in-Alike.is c.in_ok-meet_at.ensures)

pub merge-returns-in_err-arms-in-Arms-clause-clash : goal.merge-returns-in_err-arms-in-Arms-clause-clash
merge-returns-in_err-arms-in-Arms-clause-clash t c e =
    let o : OfferSame c.args.code.now.nodes (record { left = c.args.a; right = c.args.b }) c.in-Arms.session c.in-Arms.from c.in-Arms.qs.items c.in-Arms.ps.items =
    subst (IsMeetingAt c.args.code.now.nodes (record { left = c.args.a; right = c.args.b })) c.in-Arms.is c.in_ok-meet_at.ensures in
    arms_none
    (subst (λ (ys : List (NameId × CodeId)). OfferSame c.args.code.now.nodes (record { left = c.args.a; right = c.args.b }) c.in-Arms.session c.in-Arms.from ys c.in-Arms.ps.items) (sym c.deref.ensures.value) o)
    (c.in_err-arms-in-Arms.ensures.clash (same_fault (List (NameId × CodeId)) c.from_residual-in_err-arms-in-Arms.result _ _ c.from_residual-in_err-arms-in-Arms.ensures.1 e))

pub merge-returns-in_ok-push-in-Arms-clause-merged : goal.merge-returns-in_ok-push-in-Arms-clause-merged
merge-returns-in_ok-push-in-Arms-clause-merged t c =
    let o : OfferSame c.args.code.now.nodes (record { left = c.args.a; right = c.args.b }) c.in-Arms.session c.in-Arms.from c.in-Arms.qs.items c.in-Arms.ps.items =
    subst (IsMeetingAt c.args.code.now.nodes (record { left = c.args.a; right = c.args.b })) c.in-Arms.is c.in_ok-meet_at.ensures in
    arms_merged
    (subst (λ (ys : List (NameId × CodeId)). OfferSame c.args.code.now.nodes (record { left = c.args.a; right = c.args.b }) c.in-Arms.session c.in-Arms.from ys c.in-Arms.ps.items) (sym c.deref.ensures.value) o)
    c.merge_arms.new.code.nodes c.push.new.self.nodes c.in_ok-push-in-Arms.field-0 c.in_ok-arms-in-Arms.arms c.in_ok-arms-in-Arms.ensures.merged c.in_ok-push-in-Arms.ensures.ok.0 c.in_ok-push-in-Arms.ensures.ok.1

pub merge-returns-then-eq-clause-merged : goal.merge-returns-then-eq-clause-merged
merge-returns-then-eq-clause-merged t c = same_merged c.args.code.now.nodes c.args.a c.args.b c.requires.a c.requires.distinct_a (id_same c.args.code.now.nodes c.args.a c.args.b (sym c.eq.ensures ∙ c.if-eq.true))

pub merge-returns-then-eq-clause-clash : goal.merge-returns-then-eq-clause-clash
merge-returns-then-eq-clause-clash t c e = no_fault e

pub merge-returns-then-eq-clause-kept : goal.merge-returns-then-eq-clause-kept
merge-returns-then-eq-clause-kept t c = keeps_all _

pub merge-returns-in_err-meet_at-clause-merged : goal.merge-returns-in_err-meet_at-clause-merged
merge-returns-in_err-meet_at-clause-merged t c = IfOk-from_err c.from_residual.result _ c.from_residual.ensures.0

pub merge-returns-in_err-meet_at-clause-clash : goal.merge-returns-in_err-meet_at-clause-clash
merge-returns-in_err-meet_at-clause-clash t c e = no_clash c.from_residual.result c.from_residual.ensures.1 e

pub merge-returns-in_err-meet_at-clause-kept : goal.merge-returns-in_err-meet_at-clause-kept
merge-returns-in_err-meet_at-clause-kept t c = keeps_all _

pub merge-returns-in_err-arms-in-Arms-clause-merged : goal.merge-returns-in_err-arms-in-Arms-clause-merged
merge-returns-in_err-arms-in-Arms-clause-merged t c = IfOk-from_err c.from_residual-in_err-arms-in-Arms.result _ c.from_residual-in_err-arms-in-Arms.ensures.0

pub merge-returns-in_err-arms-in-Arms-clause-kept : goal.merge-returns-in_err-arms-in-Arms-clause-kept
merge-returns-in_err-arms-in-Arms-clause-kept t c = c.in_err-arms-in-Arms.ensures.kept

pub merge-returns-in_err-push-in-Arms-clause-merged : goal.merge-returns-in_err-push-in-Arms-clause-merged
merge-returns-in_err-push-in-Arms-clause-merged t c = IfOk-from_err c.from_residual-in_err-push-in-Arms.result _ c.from_residual-in_err-push-in-Arms.ensures.0

pub merge-returns-in_err-push-in-Arms-clause-clash : goal.merge-returns-in_err-push-in-Arms-clause-clash
merge-returns-in_err-push-in-Arms-clause-clash t c e = no_clash c.from_residual-in_err-push-in-Arms.result c.from_residual-in_err-push-in-Arms.ensures.1 e

pub merge-returns-in_err-push-in-Arms-clause-kept : goal.merge-returns-in_err-push-in-Arms-clause-kept
merge-returns-in_err-push-in-Arms-clause-kept t c = keeps_still c.in_ok-arms-in-Arms.ensures.kept c.in_err-push-in-Arms.ensures.err

pub merge-returns-in-Apart-clause-kept : goal.merge-returns-in-Apart-clause-kept
merge-returns-in-Apart-clause-kept t c = keeps_all _

pub merge-returns-in-Alike-clause-clash : goal.merge-returns-in-Alike-clause-clash
merge-returns-in-Alike-clause-clash t c e = no_fault e

pub merge-returns-in-Alike-clause-kept : goal.merge-returns-in-Alike-clause-kept
merge-returns-in-Alike-clause-kept t c = keeps_all _

pub merge-returns-in-Next-clause-merged : goal.merge-returns-in-Next-clause-merged
merge-returns-in-Next-clause-merged t c = c.merge_next.ensures.merged

pub merge-returns-in-Next-clause-clash : goal.merge-returns-in-Next-clause-clash
merge-returns-in-Next-clause-clash t c = c.merge_next.ensures.clash

pub merge-returns-in-Next-clause-kept : goal.merge-returns-in-Next-clause-kept
merge-returns-in-Next-clause-kept t c = c.merge_next.ensures.kept

pub merge-returns-in-Either-clause-merged : goal.merge-returns-in-Either-clause-merged
merge-returns-in-Either-clause-merged t c = c.merge_branches.ensures.merged

pub merge-returns-in-Either-clause-clash : goal.merge-returns-in-Either-clause-clash
merge-returns-in-Either-clause-clash t c = c.merge_branches.ensures.clash

pub merge-returns-in-Either-clause-kept : goal.merge-returns-in-Either-clause-kept
merge-returns-in-Either-clause-kept t c = c.merge_branches.ensures.kept

pub merge-returns-in_ok-push-in-Arms-clause-kept : goal.merge-returns-in_ok-push-in-Arms-clause-kept
merge-returns-in_ok-push-in-Arms-clause-kept t c = keeps_both c.in_ok-arms-in-Arms.ensures.kept (keeps_pushed _ c.in_ok-push-in-Arms.ensures.ok.1)

pub merge-returns-in_ok-push-in-Arms-clause-clash : goal.merge-returns-in_ok-push-in-Arms-clause-clash
merge-returns-in_ok-push-in-Arms-clause-clash t c e = no_fault e

-- ---- arms

abbrev none : NameId × CodeId
none = (record { 0 = 0 }, record { 0 = 0 })

pub merge_arms-take-requires : goal.merge_arms-take-requires
merge_arms-take-requires t c =
    let v = c.loop-arm.invariant in
    let k = v.kept in
    let x = slice_index_or c.args.qs.now c.loop-arm.arm-index none in
    let before : x.1.0 < c.args.pair.left.0 = c.requires.qs c.loop-arm.arm-index none c.loop-arm-test.true in
    let left = c.requires.inside.left in
    let here : x.1.0 < length c.args.code.now.nodes = omega arith in
    let j = next_arm c.args.code.now.nodes c.args.qs.now c.loop-arm.arm-index none c.loop-arm-test.true v.joining in
    let d = arm_distinct k c.args.pair.right c.requires.inside.right x c.loop-arm.rest.items here v.rest j in
    let e = rest_distinct k c.args.pair.right c.requires.inside.right x c.loop-arm.rest.items here v.rest j in
    (omega arith, (inside_later k c.requires.inside, (before, (v.rest, (d, e)))))

pub merge_arms-loop-arm-preserved : goal.merge_arms-loop-arm-preserved
merge_arms-loop-arm-preserved t c =
    let v = c.loop-arm.invariant in
    let k = v.kept in
    let x = slice_index_or c.args.qs.now c.loop-arm.arm-index none in
    let before : x.1.0 < c.args.pair.left.0 = c.requires.qs c.loop-arm.arm-index none c.loop-arm-test.true in
    let left = c.requires.inside.left in
    let here : x.1.0 < length c.args.code.now.nodes = omega arith in
    let j = next_arm c.args.code.now.nodes c.args.qs.now c.loop-arm.arm-index none c.loop-arm-test.true v.joining in
    let more = loop_more k c.args.pair.right c.requires.inside.right x c.loop-arm.rest.items here v.rest j c.take.new.code.nodes c.take.new.rest.items c.in_ok-id.id c.in_ok-id.ensures.left c.in_ok-id.ensures.taken in
    record {
      kept = keeps_both k c.in_ok-id.ensures.kept;
      rest = c.in_ok-id.ensures.left;
      made = made_inside c.loop-arm.made c.push.new.self (x.0, c.in_ok-id.id) c.in_ok-id.ensures.kept v.made c.in_ok-id.ensures.taken.inside c.in_ok-push.ensures.ok;
      joining = made_more c.loop-arm.made c.push.new.self (x.0, c.in_ok-id.id) c.in_ok-id.ensures.kept v.made c.in_ok-push.ensures.ok more;
    }

pub merge_arms-returns-clause-merged : goal.merge_arms-returns-clause-merged
merge_arms-returns-clause-merged t c =
    let v = c.loop-arm.invariant in
    made_all v.kept c.args.pair.right c.requires.inside.right c.args.qs.now c.args.ps.items c.loop-arm.made c.loop-arm.rest.items c.append.new.list c.loop-arm.arm-index c.loop-arm-test.false v.joining v.rest v.made
    (c.in_ok-append.ensures ∙ ap (λ (ys : List (NameId × CodeId)). c.loop-arm.made ++ ys) c.as_slice.ensures.value)

pub merge_arms-returns-in_err-id-clause-clash : goal.merge_arms-returns-in_err-id-clause-clash
merge_arms-returns-in_err-id-clause-clash t c e =
    let v = c.loop-arm.invariant in
    let x = slice_index_or c.args.qs.now c.loop-arm.arm-index none in
    let before : x.1.0 < c.args.pair.left.0 = c.requires.qs c.loop-arm.arm-index none c.loop-arm-test.true in
    let left = c.requires.inside.left in
    let here : x.1.0 < length c.args.code.now.nodes = omega arith in
    let j = next_arm c.args.code.now.nodes c.args.qs.now c.loop-arm.arm-index none c.loop-arm-test.true v.joining in
    loop_stuck v.kept c.args.pair.right c.requires.inside.right x c.loop-arm.rest.items here v.rest j (c.in_err-id.ensures.clash (same_fault CodeId c.from_residual.result _ _ c.from_residual.ensures.1 e))

pub merge_arms-returns-in_err-id-clause-kept : goal.merge_arms-returns-in_err-id-clause-kept
merge_arms-returns-in_err-id-clause-kept t c = keeps_both c.loop-arm.invariant.kept c.in_err-id.ensures.kept

pub merge_arms-returns-in_err-push-clause-kept : goal.merge_arms-returns-in_err-push-clause-kept
merge_arms-returns-in_err-push-clause-kept t c = keeps_both c.loop-arm.invariant.kept c.in_ok-id.ensures.kept

pub merge_arms-returns-in_err-id-clause-merged : goal.merge_arms-returns-in_err-id-clause-merged
merge_arms-returns-in_err-id-clause-merged t c = IfOk-from_err c.from_residual.result _ c.from_residual.ensures.0

pub merge_arms-returns-in_err-push-clause-merged : goal.merge_arms-returns-in_err-push-clause-merged
merge_arms-returns-in_err-push-clause-merged t c = IfOk-from_err c.from_residual-in_err-push.result _ c.from_residual-in_err-push.ensures.0

pub merge_arms-returns-in_err-push-clause-clash : goal.merge_arms-returns-in_err-push-clause-clash
merge_arms-returns-in_err-push-clause-clash t c e = no_clash c.from_residual-in_err-push.result c.from_residual-in_err-push.ensures.1 e

pub merge_arms-returns-in_err-append-clause-merged : goal.merge_arms-returns-in_err-append-clause-merged
merge_arms-returns-in_err-append-clause-merged t c = IfOk-from_err c.from_residual-in_err-append.result _ c.from_residual-in_err-append.ensures.0

pub merge_arms-returns-in_err-append-clause-clash : goal.merge_arms-returns-in_err-append-clause-clash
merge_arms-returns-in_err-append-clause-clash t c e = no_clash c.from_residual-in_err-append.result c.from_residual-in_err-append.ensures.1 e

pub merge_arms-returns-in_err-append-clause-kept : goal.merge_arms-returns-in_err-append-clause-kept
merge_arms-returns-in_err-append-clause-kept t c = c.loop-arm.invariant.kept

pub merge_arms-returns-clause-kept : goal.merge_arms-returns-clause-kept
merge_arms-returns-clause-kept t c = c.loop-arm.invariant.kept

pub merge_arms-returns-clause-clash : goal.merge_arms-returns-clause-clash
merge_arms-returns-clause-clash t c e = no_fault e
