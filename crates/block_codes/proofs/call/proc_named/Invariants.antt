use Rattle.std.proofs.Common.{◌≡◌, drop}
use Rattle.projection.specs.Codes.{proc_named}
use Rattle.block_codes.proofs.call.proc_named.Given as goal

abbrev pub invariant-loop-proc : goal.invariant-loop-proc
invariant-loop-proc l = proc_named (drop l.proc-index l.procs) l.name ≡ proc_named l.procs l.name
