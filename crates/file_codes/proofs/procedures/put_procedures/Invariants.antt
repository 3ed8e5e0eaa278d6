use Rattle.std.proofs.Common.{◌≡◌, ◌++◌, map, take}
use Rattle.file_codes.specs.Units.{procedure_from}
use Rattle.file_codes.proofs.procedures.put_procedures.Given as goal

abbrev pub invariant-loop-coded : goal.invariant-loop-coded
invariant-loop-coded l = l.procedures ≡ l.fn.procedures ++ map (procedure_from l.proc) (take l.coded-index l.list)
