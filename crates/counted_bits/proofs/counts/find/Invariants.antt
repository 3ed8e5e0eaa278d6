use Rattle.std.proofs.Common.{◌≡◌, ◌+◌, ◌-◌, ◌<◌, length}
use Rattle.std.specs.List.{sum_by}
use Rattle.counted_bits.specs.Counts.{itself, before}
use Rattle.counted_bits.proofs.counts.find.Given as goal

abbrev pub invariant-loop-place : goal.invariant-loop-place
invariant-loop-place l = record {
  same : before itself l.place l.counts + l.rest ≡ before itself l.start l.counts + l.initial.rest;
  left : before itself l.place l.counts + l.rest < sum_by itself l.counts;
}

abbrev pub decreases-loop-place : goal.decreases-loop-place
decreases-loop-place l = length l.counts - l.place
