use Rattle.std.proofs.Common.{◌≡◌, map, take}
use Rattle.program_runs.proofs.run.names_of.Given as goal

abbrev pub invariant-loop-process : goal.invariant-loop-process
invariant-loop-process l = l.list ≡ map (λ p. p.name) (take l.process-index l.processes)
