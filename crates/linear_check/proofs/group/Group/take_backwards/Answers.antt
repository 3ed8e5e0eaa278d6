use Rattle.std.proofs.Common.{arith}
use Rattle.linear_check.proofs.Settled.{upper_turn, found_among}
use Rattle.linear_check.proofs.Weights.{no_heavier_twice}
use Rattle.linear_check.proofs.group.Group.take_backwards.Goals as goal

pub loop-left-preserved : goal.loop-left-preserved
loop-left-preserved c =
    let f = c.args.self.now.file.now in
    let within = c.loop-left.invariant.within in
    record {
      upper = λ u.
          upper_turn f c.args.self.now.channels.names.now c.at.result.now c.loop-left.sets c.take_in_procedure.new.sets (found_among f.procs _ c.at.result.now c.at.ensures)
          c.in_ok-take_in_procedure.ensures.taken (c.loop-left.invariant.upper u);
      lighter = no_heavier_twice c.args.sets.now c.loop-left.sets c.take_in_procedure.new.sets c.loop-left.invariant.lighter c.in_ok-take_in_procedure.ensures.lighter;
      within = omega arith;
    }
