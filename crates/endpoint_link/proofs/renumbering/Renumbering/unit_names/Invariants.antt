use Rattle.std.proofs.Common.{◌≡◌, map, take}
use Rattle.endpoint_link.specs.Indexes.{renumbered_unit}
use Rattle.endpoint_link.proofs.renumbering.Renumbering.unit_names.Given as goal

abbrev pub invariant-loop-name : goal.invariant-loop-name
invariant-loop-name l = l.list ≡ map (renumbered_unit l.self) (take l.name-index l.names)
