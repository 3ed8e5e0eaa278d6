use Rattle.std.proofs.Common.{◌≡◌, drop}
use Rattle.std.specs.List.{list_all}
use Rattle.chor_tree.specs.Names.{names_in, is_among}
use Rattle.name_resolution.proofs.channels.are_among.Given as goal

abbrev pub invariant-loop-role : goal.invariant-loop-role
invariant-loop-role l = list_all (is_among (names_in l.known)) (names_in (drop l.role-index l.roles)) ≡ list_all (is_among (names_in l.known)) (names_in l.roles)
