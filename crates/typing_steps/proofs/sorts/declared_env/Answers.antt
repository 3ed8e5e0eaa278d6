use Rattle.std.proofs.Common.{arith}
use Rattle.typing_steps.proofs.SortMaps.{no_variables, variable_turn}
use Rattle.typing_steps.proofs.sorts.declared_env.Goals as goal

pub loop-left-init : goal.loop-left-init
loop-left-init c = record { within = omega arith; so_far = no_variables c.args.vars.now c.new-env.result.map c.new-env.ensures }

pub loop-left-preserved : goal.loop-left-preserved
loop-left-preserved c = record {
  within = omega arith;
  so_far = variable_turn c.args.vars.now c.loop-left.left _ c.loop-left.env.map c.reserve.new.self.map c.set.new.self.map c.loop-left-test.true c.loop-left.invariant.within
      c.in_ok-reserve.ensures.map c.set.ensures.map c.loop-left.invariant.so_far;
}
