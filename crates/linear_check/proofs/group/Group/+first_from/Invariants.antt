use Rattle.std.proofs.Common.{ℕ, ◌≤◌}
use Rattle.well_formed.specs.Linear.{Members}
use Rattle.linear_check.specs.Tracks.{Tracks}
use Rattle.linear_check.proofs.Faults.{SeeksOn}
use Rattle.linear_check.proofs.group.Group.+first_from.Given as goal

abbrev pub decreases-first_from : goal.decreases-first_from
decreases-first_from l = l.id.0

abbrev pub invariant-loop-node : goal.invariant-loop-node
invariant-loop-node l = record {
  on : (m : ℕ → Members) → Tracks l.self.channels.names.now l.fn.heard m → SeeksOn l.self.file.now l.self.channels.names.now l.fn.heard l.heard m l.fn.id l.at l.first;
  below : l.at.0 ≤ l.fn.id.0;
}

abbrev pub decreases-loop-node : goal.decreases-loop-node
decreases-loop-node l = l.at.0
