use Rattle.std.proofs.Common.{◌<◌, ◌≤◌, arith}
use Rattle.linear_check.specs.Weights.{weight_of}
use Rattle.linear_check.proofs.Weights.{no_more}
use Rattle.linear_check.proofs.group.Group.greatest_sets.Goals as goal

pub returns-then-not-changed : goal.returns-then-not-changed
returns-then-not-changed c = c.in_ok-changed.ensures.settled c.if-not-changed.true c.loop-sets.invariant

pub loop-sets-smaller : goal.loop-sets-smaller
loop-sets-smaller c =
    let nodes = c.args.self.now.file.now.tree.nodes in
    let taken : weight_of c.take_in_all.new.sets nodes < weight_of c.loop-sets.sets nodes = c.in_ok-changed.ensures.falls c.if-not-changed.false in
    let backwards : weight_of c.take_backwards.new.sets nodes ≤ weight_of c.take_in_all.new.sets nodes = no_more c.take_in_all.new.sets c.take_backwards.new.sets c.in_ok-take_backwards.ensures.lighter nodes in
    omega arith
