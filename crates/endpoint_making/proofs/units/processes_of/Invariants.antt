use Rattle.std.proofs.Common.{◌≡◌, ◌++◌, map, drop}
use Rattle.endpoint_making.specs.Making.{process_made}
use Rattle.endpoint_making.proofs.units.processes_of.Given as goal

abbrev pub invariant-loop-process : goal.invariant-loop-process
invariant-loop-process l = l.list ++ map process_made (drop l.process-index l.processes) ≡ map process_made l.processes
