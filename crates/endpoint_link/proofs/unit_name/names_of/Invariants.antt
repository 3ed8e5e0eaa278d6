use Rattle.std.proofs.Common.{◌≡◌, map, take}
use Rattle.endpoint_link.proofs.unit_name.names_of.Given as goal

abbrev pub invariant-loop-unit : goal.invariant-loop-unit
invariant-loop-unit g l = l.list ≡ map g.T.HasUnitName.name_of (take l.unit-index l.units)
