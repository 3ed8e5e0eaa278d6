use Rattle.std.proofs.Common.{◌≡◌, ◌++◌, map, drop}
use Rattle.endpoint_making.specs.Making.{procedure_made}
use Rattle.endpoint_making.proofs.units.procedures_of.Given as goal

abbrev pub invariant-loop-procedure : goal.invariant-loop-procedure
invariant-loop-procedure l = l.list ++ map procedure_made (drop l.procedure-index l.procedures) ≡ map procedure_made l.procedures
