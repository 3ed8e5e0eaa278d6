use Rattle.std.proofs.Common.{◌≡◌, drop}
use Rattle.endpoint_code.specs.Faults.{is_among}
use Rattle.endpoint_names.proofs.bound.Bound.has.Given as goal

abbrev pub invariant-loop-bound : goal.invariant-loop-bound
invariant-loop-bound l = is_among l.name (drop l.bound-index l.bound-items) ≡ is_among l.name l.self
