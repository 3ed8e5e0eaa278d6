use Rattle.std.proofs.Common.{◌∙◌, ap}
use Rattle.chor_tree.specs.Names.{step_faults}
use Rattle.chor_base.proofs.Faults.{turn_from}
use Rattle.name_resolution.proofs.declared.Declared.first_in_steps.Goals as goal

pub loop-state-preserved : goal.loop-state-preserved
loop-state-preserved c = turn_from (λ s. step_faults c.args.self.now.file.now c.args.protocol.now s.step) _ _ _ _ (c.args.protocol.now.states) c.loop-state.state-index c.state-item.result _ (c.as_slice-state-items.ensures ∙ ap (λ p. p.states) c.protocol.view_is) c.loop-state-test.true c.state-item.is (c.in_ok-found.ensures) c.earlier-first.ensures c.loop-state.invariant
