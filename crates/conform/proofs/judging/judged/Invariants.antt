use Rattle.std.proofs.Common.{take}
use Rattle.conform.specs.Progress.{IsAfter}
use Rattle.conform.proofs.judging.judged.Given as goal

abbrev pub invariant-loop-place : goal.invariant-loop-place
invariant-loop-place l = IsAfter l.file (take l.place l.events) l.progress
