use Rattle.std.proofs.Common.{◌≡◌, drop}
use Rattle.endpoint_text.specs.Ascending.{ascending}
use Rattle.endpoint_text.specs.Places.{label_in}
use Rattle.endpoint_text.proofs.arms.ascending_arms.Given as goal

abbrev pub invariant-loop-index : goal.invariant-loop-index
invariant-loop-index l = l.sorted.items ≡ ascending (label_in l.names) (drop l.index l.arms)
