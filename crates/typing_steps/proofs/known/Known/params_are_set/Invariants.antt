use Rattle.std.proofs.Common.{◌≡◌, drop}
use Rattle.typing_rules.specs.Checks.{params_are_set}
use Rattle.typing_steps.specs.Known.{environment_of}
use Rattle.typing_steps.proofs.known.Known.params_are_set.Given as goal

abbrev pub invariant-loop-index : goal.invariant-loop-index
invariant-loop-index l = params_are_set (environment_of l.self) (drop l.index l.params) (drop l.index l.processes) ≡ params_are_set (environment_of l.self) l.params l.processes
