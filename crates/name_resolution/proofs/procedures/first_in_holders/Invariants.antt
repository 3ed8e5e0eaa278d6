use Rattle.std.proofs.Common.{◌≡◌, drop, map, ◌++◌, option_copied}
use Rattle.std.specs.List.{flat_map}
use Rattle.chor_tree.specs.Names.{unknown_role, unknown}
use Rattle.chor_base.specs.Faults.{earlier, first_of_all}
use Rattle.name_resolution.proofs.procedures.first_in_holders.Given as goal

abbrev pub invariant-loop-holder : goal.invariant-loop-holder
invariant-loop-holder l = earlier l.first (first_of_all (flat_map (λ h. unknown_role (option_copied l.protocol) h.0 ++ unknown (map (λ q. q.name.name) l.params) h.1) (drop l.holder-index (l.holders)))) ≡ first_of_all (flat_map (λ h. unknown_role (option_copied l.protocol) h.0 ++ unknown (map (λ q. q.name.name) l.params) h.1) (l.holders))
