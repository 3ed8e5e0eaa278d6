use Rattle.std.proofs.Common.{◌≡◌, ◌++◌, ◌+◌, ◌*◌, drop}
use Rattle.std.specs.List.{flat_map}
use Rattle.endpoint_text.specs.Parts.{node_arm}
use Rattle.endpoint_text.proofs.ArmLists.{above}
use Rattle.endpoint_text.proofs.code.+code.Given as goal

abbrev pub decreases-put_arms : goal.decreases-put_arms
decreases-put_arms l = 2 * above l.arms.now

abbrev pub decreases-put_code : goal.decreases-put_code
decreases-put_code l = 2 * l.id.0 + 1

abbrev pub invariant-put_arms-loop-arm : goal.invariant-put_arms-loop-arm
invariant-put_arms-loop-arm l =
    l.out.items ++ flat_map (node_arm l.e) (drop l.arm-index l.arms) ≡ l.fn.out.items ++ flat_map (node_arm l.e) l.arms
