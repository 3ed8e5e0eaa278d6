use Rattle.std.proofs.Common.{◌≡◌, ◌++◌, drop}
use Rattle.endpoint_making.specs.Codes.{pairs_of}
use Rattle.endpoint_making.proofs.nodes.pairs_of.Given as goal

abbrev pub invariant-loop-arm : goal.invariant-loop-arm
invariant-loop-arm l = l.pairs ++ pairs_of (drop l.arm-index l.arms) ≡ pairs_of l.arms
