use Rattle.linear_check.specs.Greatest.{AreAllUpper}
use Rattle.linear_check.specs.Weights.{weight_of}
use Rattle.linear_check.proofs.group.Group.greatest_sets.Given as goal

abbrev pub invariant-loop-sets : goal.invariant-loop-sets
invariant-loop-sets l = AreAllUpper l.self.file.now l.self.channels.names.now l.sets

abbrev pub decreases-loop-sets : goal.decreases-loop-sets
decreases-loop-sets l = weight_of l.sets l.self.file.now.tree.nodes
