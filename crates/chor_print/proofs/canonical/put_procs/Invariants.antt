use Rattle.std.proofs.Common.{◌≡◌, ◌++◌, drop}
use Rattle.std.specs.List.{flat_map}
use Rattle.chor_print.specs.Parts.{proc_text}
use Rattle.chor_print.proofs.canonical.put_procs.Given as goal

abbrev pub invariant-loop-procedure : goal.invariant-loop-procedure
invariant-loop-procedure l = l.out.items ++ flat_map (proc_text l.file) (drop l.procedure-index l.file.procs) ≡ l.fn.out.items ++ flat_map (proc_text l.file) l.file.procs
