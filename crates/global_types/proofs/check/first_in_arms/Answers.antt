use Rattle.global_types.specs.Faults.{unknown_state}
use Rattle.chor_base.proofs.Faults.{turn}
use Rattle.global_types.proofs.check.first_in_arms.Goals as goal

pub loop-arm-preserved : goal.loop-arm-preserved
loop-arm-preserved c = turn (λ arm. unknown_state c.args.states.now arm.next) _ _ _ c.args.arms.now c.loop-arm.arm-index _ _ c.loop-arm-test.true c.unknown_state_near-fault.ensures c.earlier-first.ensures c.loop-arm.invariant
