use Rattle.std.proofs.Common.{◌≡◌, drop}
use Rattle.std.specs.List.{flat_map}
use Rattle.global_types.specs.Faults.{unused_role}
use Rattle.chor_base.specs.Faults.{earlier, first_of_all}
use Rattle.global_types.proofs.check.first_in_roles.Given as goal

abbrev pub invariant-loop-role : goal.invariant-loop-role
invariant-loop-role l = earlier l.first (first_of_all (flat_map (unused_role l.states) (drop l.role-index l.roles))) ≡ first_of_all (flat_map (unused_role l.states) l.roles)
