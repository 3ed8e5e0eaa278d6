use Rattle.std.proofs.Common.{◌≡◌, drop, map, []}
use Rattle.std.specs.List.{flat_map}
use Rattle.chor_tree.specs.Names.{repeated}
use Rattle.chor_base.specs.Faults.{earlier, first_of_all}
use Rattle.name_resolution.proofs.procedures.first_in_variables.Given as goal

abbrev pub invariant-loop-param : goal.invariant-loop-param
invariant-loop-param l = earlier l.first (first_of_all (flat_map (λ q. repeated [] (map (λ v. v.0) q.vars)) (drop l.param-index (l.params)))) ≡ first_of_all (flat_map (λ q. repeated [] (map (λ v. v.0) q.vars)) (l.params))
