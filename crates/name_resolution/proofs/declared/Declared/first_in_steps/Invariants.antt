use Rattle.std.proofs.Common.{◌≡◌, drop}
use Rattle.std.specs.List.{flat_map}
use Rattle.chor_tree.specs.Names.{step_faults}
use Rattle.chor_base.specs.Faults.{earlier, first_of_all}
use Rattle.name_resolution.proofs.declared.Declared.first_in_steps.Given as goal

abbrev pub invariant-loop-state : goal.invariant-loop-state
invariant-loop-state l = earlier l.first (first_of_all (flat_map (λ s. step_faults l.self.file.now l.protocol s.step) (drop l.state-index (l.protocol.states)))) ≡ first_of_all (flat_map (λ s. step_faults l.self.file.now l.protocol s.step) (l.protocol.states))
