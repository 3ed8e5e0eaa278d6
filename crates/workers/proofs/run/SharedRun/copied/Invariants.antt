use Rattle.std.proofs.Common.{◌≡◌, take}
use Rattle.workers.proofs.run.SharedRun.copied.Given as goal

abbrev pub invariant-loop-entry : goal.invariant-loop-entry
invariant-loop-entry l = l.entries ≡ take l.entry-index l.history
