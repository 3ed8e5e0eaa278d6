use Rattle.std.proofs.Common.{◌≡◌, map, take}
use Rattle.endpoint_link.specs.Renumbered.{renumbered_name}
use Rattle.endpoint_link.proofs.renumbering.Renumbering.names.Given as goal

abbrev pub invariant-loop-name : goal.invariant-loop-name
invariant-loop-name l = l.list ≡ map (renumbered_name l.self) (take l.name-index l.names)
