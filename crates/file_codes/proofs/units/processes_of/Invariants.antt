use Rattle.std.proofs.Common.{◌≡◌, map, take}
use Rattle.file_codes.specs.Units.{process_from}
use Rattle.file_codes.proofs.units.processes_of.Given as goal

abbrev pub invariant-loop-coded : goal.invariant-loop-coded
invariant-loop-coded l = l.processes ≡ map process_from (take l.coded-index l.list)
