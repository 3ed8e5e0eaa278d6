use Rattle.std.proofs.Common.{◌≡◌, ◌++◌, drop}
use Rattle.std.specs.List.{flat_map}
use Rattle.endpoint_text.specs.Text.{procedure_line}
use Rattle.endpoint_text.proofs.print.put_procedures.Given as goal

abbrev pub invariant-loop-procedure : goal.invariant-loop-procedure
invariant-loop-procedure l = l.out.items ++ flat_map (procedure_line l.e) (drop l.procedure-index l.e.procedures) ≡ l.fn.out.items ++ flat_map (procedure_line l.e) l.e.procedures
