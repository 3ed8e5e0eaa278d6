use Rattle.std.proofs.Common.{◌≡◌, ◌+◌, ◌-◌, ◌<◌, length}
use Rattle.std.specs.List.{sum_by}
use Rattle.counted_bits.specs.Counts.{one, before}
use Rattle.counted_bits.proofs.counts.find_bit.Given as goal

abbrev pub invariant-loop-rest : goal.invariant-loop-rest
invariant-loop-rest l = record {
  same : before one l.place l.bits + l.rest ≡ before one l.start l.bits + l.initial.rest;
  left : before one l.place l.bits + l.rest < sum_by one l.bits;
}

abbrev pub decreases-loop-rest : goal.decreases-loop-rest
decreases-loop-rest l = length l.bits - l.place
