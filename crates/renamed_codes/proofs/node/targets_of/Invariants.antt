use Rattle.std.proofs.Common.{◌≡◌, map, take}
use Rattle.renamed_codes.proofs.node.targets_of.Given as goal

abbrev pub invariant-loop-arm : goal.invariant-loop-arm
invariant-loop-arm l = l.list ≡ map (λ arm. arm.1) (take l.arm-index l.arms)
