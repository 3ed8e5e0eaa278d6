use Rattle.std.proofs.Common.{◌≡◌, ◌++◌, drop}
use Rattle.std.specs.List.{flat_map}
use Rattle.endpoint_text.specs.Text.{process_line}
use Rattle.endpoint_text.proofs.print.put_processes.Given as goal

abbrev pub invariant-loop-process : goal.invariant-loop-process
invariant-loop-process l = l.out.items ++ flat_map (process_line l.e) (drop l.process-index l.e.processes) ≡ l.fn.out.items ++ flat_map (process_line l.e) l.e.processes
