use Rattle.std.proofs.Common.{refl, arith, ◌≡◌, sym, ◌∙◌, Bool, true, false}
use Rattle.chor_base.specs.declared.names.NameId.{NameId}
use Rattle.endpoint_code.specs.declared.code.CodeId.{CodeId}
use Rattle.endpoint_code.specs.Above.{no_arm}
use Rattle.endpoint_code.specs.Trees.{trees_of, arms_in, code_at}
use Rattle.endpoint_code.proofs.Decides.{arm_smaller, has_at, none_next, above_here, above_next, differs, by_next, by_arms, by_branches, by_head, is_branch, is_if, branch_smaller, branch_inside}
use Rattle.endpoint_code.proofs.code.Code.+above.Goals.{follow_above-in_default-via-in-Branch+in_default, follow_above-in_default-via-in-If+in_default, follow_above-in_default-via-in_default}
use Rattle.endpoint_code.proofs.code.Code.+above.Goals as goal

not_true : {r : Bool} → r ≡ false → r ≡ true → ⊥
not_true f t = cc

abbrev none : NameId × CodeId
none = (record { 0 = 0 }, record { 0 = 0 })

pub are_above-loop-arm-init : goal.are_above-loop-arm-init
are_above-loop-arm-init t c = no_arm

pub are_above-has_above-requires : goal.are_above-has_above-requires
are_above-has_above-requires t c =
    let smaller = arm_smaller (trees_of c.args.self.now.nodes) c.args.ps.now c.loop-arm.arm-index none c.loop-arm-test.true in
    (omega arith, (c.requires.qs, c.requires.ps c.loop-arm.arm-index none c.loop-arm-test.true))

pub are_above-returns-then-not-has_above : goal.are_above-returns-then-not-has_above
are_above-returns-then-not-has_above t c =
    let ts = trees_of c.args.self.now.nodes in
    ((λ f. absurd cc), (λ a. absurd (not_true c.if-not-has_above.true (c.has_above.ensures.1 (above_here ts (arms_in ts c.args.qs.now) c.args.ps.now c.loop-arm.arm-index none c.loop-arm-test.true a)))))

pub are_above-loop-arm-preserved : goal.are_above-loop-arm-preserved
are_above-loop-arm-preserved t c =
    let ts = trees_of c.args.self.now.nodes in
    above_next ts (arms_in ts c.args.qs.now) c.args.ps.now c.loop-arm.arm-index none c.loop-arm-test.true c.loop-arm.invariant (c.has_above.ensures.0 c.if-not-has_above.false)

pub has_above-is_arm_above-requires : goal.has_above-is_arm_above-requires
has_above-is_arm_above-requires t c =
    let smaller = arm_smaller (trees_of c.args.self.now.nodes) c.args.qs.now c.loop-arm.arm-index none c.loop-arm-test.true in
    (omega arith, (c.requires.qs c.loop-arm.arm-index none c.loop-arm-test.true, c.requires.p))

pub has_above-returns-then-is_arm_above : goal.has_above-returns-then-is_arm_above
has_above-returns-then-is_arm_above t c =
    ((λ f. has_at (trees_of c.args.self.now.nodes) c.args.label (code_at c.args.self.now.nodes c.args.p) c.args.qs.now c.loop-arm.arm-index none c.loop-arm-test.true (c.is_arm_above.ensures.0 c.if-is_arm_above.true)), (λ a. refl))

pub has_above-loop-arm-preserved : goal.has_above-loop-arm-preserved
has_above-loop-arm-preserved t c =
    none_next (trees_of c.args.self.now.nodes) c.args.label (code_at c.args.self.now.nodes c.args.p) c.args.qs.now c.loop-arm.arm-index none c.loop-arm-test.true c.loop-arm.invariant
    (λ a. not_true c.if-is_arm_above.false (c.is_arm_above.ensures.1 a))

pub follow_above-are_above-requires : goal.follow_above-are_above-requires
follow_above-are_above-requires t c =
    let n = c.in-Branch-Branch in
    let upper = branch_smaller (trees_of c.args.self.now.nodes) c.args.upper.now n.is-0 c.as_slice.ensures in
    let lower = branch_smaller (trees_of c.args.self.now.nodes) c.args.lower.now n.is-1 c.as_slice-in-Branch-Branch.ensures in (
      omega (arith, upper, lower, c.decreases),
      (branch_inside _ c.args.upper.now n.is-0 c.as_slice.ensures c.requires.upper, branch_inside _ c.args.lower.now n.is-1 c.as_slice-in-Branch-Branch.ensures c.requires.lower),
    )

pub follow_above-returns-in-Branch-Branch : goal.follow_above-returns-in-Branch-Branch
follow_above-returns-in-Branch-Branch t c =
    by_arms (trees_of c.args.self.now.nodes) c.args.upper.now c.args.lower.now _ c.requires.same _ _ _ _ c.in-Branch-Branch.is-0 c.in-Branch-Branch.is-1 c.as_slice.ensures c.as_slice-in-Branch-Branch.ensures c.are_above.ensures

pub follow_above-returns-then-is_above : goal.follow_above-returns-then-is_above
follow_above-returns-then-is_above t c =
    by_branches (trees_of c.args.self.now.nodes) c.args.upper.now c.args.lower.now _ c.requires.same _ _ _ _ c.in-If-If.is-0 c.in-If-If.is-1
    (c.is_above.ensures.0 c.if-is_above.true) c.is_above-then-is_above.ensures

pub follow_above-returns-in-Some-Some : goal.follow_above-returns-in-Some-Some
follow_above-returns-in-Some-Some t c =
    by_next (trees_of c.args.self.now.nodes) c.args.upper.now c.args.lower.now _ c.requires.same _ _
    (sym c.next_of.ensures ∙ c.in-Some-Some.is-0) (sym c.next_of-in_default.ensures ∙ c.in-Some-Some.is-1) c.is_above-in-Some-Some.ensures

pub follow_above-returns-in_default-2-2 : goal.follow_above-returns-in_default-2-2
follow_above-returns-in_default-2-2 t c = elim c.in_default.branch [
  | follow_above-in_default-via-in-Branch+in_default w ↦ absurd (is_branch c.args.upper.now c.args.lower.now c.requires.same w.in_default.is-0 w.in_default.not-Branch-1)
  | follow_above-in_default-via-in-If+in_default w ↦ absurd (is_if c.args.upper.now c.args.lower.now c.requires.same w.in_default.is-0 w.in_default.not-If-1)
  | follow_above-in_default-via-in_default w ↦
      by_head (trees_of c.args.self.now.nodes) c.args.upper.now c.args.lower.now c.requires.same (sym c.next_of.ensures ∙ c.in_default-2.is-0) w.in_default.not-Branch-0 w.in_default.not-If-0
]

pub is_above-returns-else-have_same_head : goal.is_above-returns-else-have_same_head
is_above-returns-else-have_same_head t c =
    differs (trees_of c.args.self.now.nodes) c.node_at-upper.result.now c.node_at-lower.result.now c.if-have_same_head.false c.node_at-upper.ensures.tree c.node_at-lower.ensures.tree (λ e. not_true c.if-have_same_head.false (c.have_same_head.ensures.1 e))
