use Rattle.std.proofs.Common.{◌≡◌, ◌++◌, drop}
use Rattle.endpoint_names.proofs.units.all_roles.Given as goal

abbrev pub invariant-loop-role : goal.invariant-loop-role
invariant-loop-role l = l.all ++ drop l.role-index l.roles.serve ≡ l.roles.active ++ l.roles.serve
