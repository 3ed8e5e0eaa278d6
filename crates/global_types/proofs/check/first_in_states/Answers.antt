use Rattle.global_types.specs.Faults.{step_faults}
use Rattle.chor_base.proofs.Faults.{turn_item}
use Rattle.global_types.proofs.check.first_in_states.Goals as goal

pub loop-state-preserved : goal.loop-state-preserved
loop-state-preserved c = turn_item (λ s. step_faults c.args.protocols.now c.args.states.now s.step) _ _ _ c.args.states.now c.loop-state.state-index c.state-item.result _ c.loop-state-test.true c.state-item.is c.first_in_step.ensures c.earlier-first.ensures c.loop-state.invariant
