use Rattle.std.proofs.Common.{◌≡◌, drop}
use Rattle.chor_io.specs.Memory.{allowance_of}
use Rattle.chor_io.proofs.memory.allowance.Given as goal

abbrev pub invariant-loop-call : goal.invariant-loop-call
invariant-loop-call l = allowance_of (drop l.call-index l.fails) l.number ≡ allowance_of l.fails l.number
