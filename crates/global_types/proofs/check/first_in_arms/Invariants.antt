use Rattle.std.proofs.Common.{◌≡◌, drop}
use Rattle.std.specs.List.{flat_map}
use Rattle.global_types.specs.Faults.{unknown_state}
use Rattle.chor_base.specs.Faults.{earlier, first_of_all}
use Rattle.global_types.proofs.check.first_in_arms.Given as goal

abbrev pub invariant-loop-arm : goal.invariant-loop-arm
invariant-loop-arm l = earlier l.first (first_of_all (flat_map (λ arm. unknown_state l.states arm.next) (drop l.arm-index l.arms))) ≡ first_of_all (flat_map (λ arm. unknown_state l.states arm.next) l.arms)
