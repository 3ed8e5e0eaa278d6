use Rattle.std.proofs.Common.{◌+◌, take}
use Rattle.endpoint_code.specs.Trees.{trees_of, arms_in, node_tree, code_at}
use Rattle.endpoint_code.specs.Above.{AreAbove, HasAbove}
use Rattle.endpoint_code.proofs.Sizes.{size, size_of_arms}
use Rattle.endpoint_code.proofs.code.Code.+above.Given as goal

abbrev pub decreases-are_above : goal.decreases-are_above
decreases-are_above l = size_of_arms (arms_in (trees_of l.self.now.nodes) l.qs.now) + size_of_arms (arms_in (trees_of l.self.now.nodes) l.ps.now)

abbrev pub decreases-has_above : goal.decreases-has_above
decreases-has_above l = size_of_arms (arms_in (trees_of l.self.now.nodes) l.qs.now) + size (code_at l.self.now.nodes l.p) + 1

abbrev pub decreases-is_above : goal.decreases-is_above
decreases-is_above l = size (code_at l.self.now.nodes l.q) + size (code_at l.self.now.nodes l.p) + 1

abbrev pub decreases-follow_above : goal.decreases-follow_above
decreases-follow_above l = size (node_tree (trees_of l.self.now.nodes) l.upper.now) + size (node_tree (trees_of l.self.now.nodes) l.lower.now)

abbrev pub decreases-is_arm_above : goal.decreases-is_arm_above
decreases-is_arm_above l = size (code_at l.self.now.nodes l.arm.1) + size (code_at l.self.now.nodes l.p) + 2

abbrev pub invariant-are_above-loop-arm : goal.invariant-are_above-loop-arm
invariant-are_above-loop-arm l = AreAbove (arms_in (trees_of l.self.nodes) l.qs) (arms_in (trees_of l.self.nodes) (take l.arm-index l.ps))

abbrev pub invariant-has_above-loop-arm : goal.invariant-has_above-loop-arm
invariant-has_above-loop-arm l = HasAbove (arms_in (trees_of l.self.nodes) (take l.arm-index l.qs)) l.label (code_at l.self.nodes l.p) → ⊥
