use Rattle.std.proofs.Common.{take, []}
use Rattle.chor_base.specs.declared.names.NameId.{NameId}
use Rattle.projection.specs.Projects.{starts_in_procs}
use Rattle.service_codes.specs.Starts.{nodes_of, AddsStarts}
use Rattle.service_codes.proofs.starts.all_starts.Given as goal

abbrev pub invariant-loop-proc : goal.invariant-loop-proc
invariant-loop-proc l = (a : NameId) → AddsStarts l.file a (starts_in_procs l.file a (take l.proc-index l.proc-items)) [] (nodes_of a l.starts)
