use Rattle.std.proofs.Common.{arith, ap, ◌∙◌}
use Rattle.typing_rules.specs.Environment.{declared_sort}
use Rattle.typing_steps.specs.Sorts.{sorts_in, sorts_of_map}
use Rattle.typing_steps.proofs.SortMaps.{no_processes, process_turn}
use Rattle.typing_steps.proofs.sorts.SortMap.declared.Goals as goal

pub loop-left-init : goal.loop-left-init
loop-left-init c = record { within = omega arith; so_far = no_processes c.args.params.now (sorts_in c.new-sorts.result) c.new-sorts.ensures }

pub loop-left-preserved : goal.loop-left-preserved
loop-left-preserved c = record {
  within = omega arith;
  so_far = process_turn c.args.params.now c.loop-left.left c.index-params-left.result (sorts_in c.loop-left.sorts) (sorts_in c.put.new.self) (sorts_of_map c.in_ok-env.env.map) c.loop-left-test.true c.loop-left.invariant.within c.index-params-left.is
      (c.in_ok-env.ensures ∙ ap declared_sort c.as_slice.ensures) c.in_ok-put.ensures c.loop-left.invariant.so_far;
}
