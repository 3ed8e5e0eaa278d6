use Rattle.std.proofs.Common.{◌≤◌, length}
use Rattle.linear_check.specs.Greatest.{AreAllUpper}
use Rattle.linear_check.specs.Weights.{IsNoHeavier}
use Rattle.linear_check.proofs.group.Group.take_backwards.Given as goal

abbrev pub invariant-loop-left : goal.invariant-loop-left
invariant-loop-left l = record {
  upper : AreAllUpper l.self.file.now l.self.channels.names.now l.fn.sets → AreAllUpper l.self.file.now l.self.channels.names.now l.sets;
  lighter : IsNoHeavier l.sets l.fn.sets;
  within : l.left ≤ length l.self.file.now.procs;
}

abbrev pub decreases-loop-left : goal.decreases-loop-left
decreases-loop-left l = l.left
