use Rattle.std.proofs.Common.{◌≡◌, take}
use Rattle.generated_runs.specs.Counts.{grown}
use Rattle.generated_runs.proofs.counts.grown.Given as goal

abbrev pub invariant-loop-part : goal.invariant-loop-part
invariant-loop-part l = l.count ≡ grown l.processes (take l.part-index l.parts)
