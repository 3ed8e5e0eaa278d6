use Rattle.std.proofs.Common.{◌≡◌, ◌++◌, ◌==◌, drop}
use Rattle.std.specs.List.{list_all, count_by}
use Rattle.chor_tree.specs.Names.{names_in}
use Rattle.name_resolution.proofs.channels.are_once.Given as goal

abbrev pub invariant-loop-role : goal.invariant-loop-role
invariant-loop-role l = list_all (λ r. count_by (λ x. x.0 == r.0) (names_in (l.active ++ l.serve)) == 1) (names_in (drop l.role-index l.roles)) ≡ list_all (λ r. count_by (λ x. x.0 == r.0) (names_in (l.active ++ l.serve)) == 1) (names_in l.roles)
