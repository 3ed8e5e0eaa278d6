use Rattle.std.proofs.Common.{◌≡◌, drop}
use Rattle.std.specs.List.{flat_map}
use Rattle.global_types.specs.Faults.{step_faults}
use Rattle.chor_base.specs.Faults.{earlier, first_of_all}
use Rattle.global_types.proofs.check.first_in_states.Given as goal

abbrev pub invariant-loop-state : goal.invariant-loop-state
invariant-loop-state l = earlier l.first (first_of_all (flat_map (λ s. step_faults l.protocols l.states s.step) (drop l.state-index l.states))) ≡ first_of_all (flat_map (λ s. step_faults l.protocols l.states s.step) l.states)
