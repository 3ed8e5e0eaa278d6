use Rattle.std.proofs.Common.{◌≡◌, drop, map, length}
use Rattle.chor_tree.specs.Names.{names_in, are_same}
use Rattle.name_resolution.proofs.lists.have_roles.Given as goal

abbrev pub invariant-loop-index : goal.invariant-loop-index
invariant-loop-index l = record {
  same : are_same (map (λ q. q.role.name) (drop l.index l.parts)) (names_in (drop l.index l.roles)) ≡ are_same (map (λ q. q.role.name) l.parts) (names_in l.roles);
  length : length l.parts ≡ length l.roles;
}
