use Rattle.std.proofs.Common.{◌+◌, ◌<◌, length, drop}
use Rattle.std.specs.Prelude.{All}
use Rattle.branch_merge.specs.Merged.{Keeps}
use Rattle.branch_merge.specs.Merging.{arms_at}
use Rattle.branch_merge.proofs.Bounds.{AreJoining}
use Rattle.branch_merge.proofs.merging.+merging.Given as goal

abbrev pub decreases-merge : goal.decreases-merge
decreases-merge l = l.a.0 + l.b.0 + l.a.0 + l.b.0 + 2

abbrev pub decreases-merge_arms : goal.decreases-merge_arms
decreases-merge_arms l = l.pair.left.0 + l.pair.right.0 + l.pair.left.0 + l.pair.right.0 + 1

abbrev pub decreases-merge_next : goal.decreases-merge_next
decreases-merge_next l = l.pair.left.0 + l.pair.right.0 + l.pair.left.0 + l.pair.right.0 + 1

abbrev pub decreases-merge_branches : goal.decreases-merge_branches
decreases-merge_branches l = l.pair.left.0 + l.pair.right.0 + l.pair.left.0 + l.pair.right.0 + 1

abbrev pub decreases-take : goal.decreases-take
decreases-take l = l.pair.left.0 + l.pair.right.0 + l.pair.left.0 + l.pair.right.0

abbrev pub invariant-merge_arms-loop-arm : goal.invariant-merge_arms-loop-arm
invariant-merge_arms-loop-arm l = record {
  kept : Keeps l.fn.code.nodes l.code.nodes;
  rest : All (λ r. r.1.0 < l.pair.right.0) l.rest.items;
  made : All (λ r. r.1.0 < length l.code.nodes) l.made;
  joining : AreJoining (arms_at l.fn.code.nodes l.qs) (arms_at l.fn.code.nodes l.fn.ps.items) (arms_at l.fn.code.nodes (drop l.arm-index l.qs)) (arms_at l.fn.code.nodes l.rest.items) (arms_at l.code.nodes l.made);
}
