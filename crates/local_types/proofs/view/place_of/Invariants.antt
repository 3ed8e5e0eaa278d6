use Rattle.std.proofs.Common.{◌≡◌, drop}
use Rattle.local_types.specs.Reading.{role_place}
use Rattle.local_types.proofs.view.place_of.Given as goal

abbrev pub invariant-loop-named : goal.invariant-loop-named
invariant-loop-named l = role_place (drop l.named-index l.roles) l.role ≡ role_place l.roles l.role
