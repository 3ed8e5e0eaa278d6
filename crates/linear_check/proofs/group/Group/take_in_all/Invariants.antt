use Rattle.std.proofs.Common.{◌≡◌, ◌<◌, true, false}
use Rattle.linear_check.specs.Greatest.{AreAllUpper}
use Rattle.linear_check.specs.Weights.{weight_of, IsNoHeavier}
use Rattle.linear_check.proofs.Settled.{AreSettledBelow}
use Rattle.linear_check.proofs.group.Group.take_in_all.Given as goal

abbrev pub invariant-loop-procedure : goal.invariant-loop-procedure
invariant-loop-procedure l = record {
  upper : AreAllUpper l.self.file.now l.self.channels.names.now l.fn.sets → AreAllUpper l.self.file.now l.self.channels.names.now l.sets;
  same : l.changed ≡ false → l.sets ≡ l.fn.sets;
  lighter : IsNoHeavier l.sets l.fn.sets;
  falls : l.changed ≡ true → weight_of l.sets l.self.file.now.tree.nodes < weight_of l.fn.sets l.self.file.now.tree.nodes;
  settled : l.changed ≡ false → AreSettledBelow l.self.file.now l.self.channels.names.now l.fn.sets l.procedure-index;
}
