use Rattle.std.proofs.Common.{◌≡◌, ◌++◌, take}
use Rattle.branch_merge.proofs.arms.append.Given as goal

abbrev pub invariant-loop-arm : goal.invariant-loop-arm
invariant-loop-arm l = l.list ≡ l.fn.list ++ take l.arm-index l.more
