use Rattle.std.proofs.Common.{◌≡◌, drop}
use Rattle.typing_rules.specs.Checks.{sessions_fit}
use Rattle.typing_steps.specs.Known.{environment_of}
use Rattle.typing_steps.proofs.known.Known.sessions_fit.Given as goal

abbrev pub invariant-loop-index : goal.invariant-loop-index
invariant-loop-index l = sessions_fit (environment_of l.self) l.params l.processes (drop l.index l.declared) (drop l.index l.sessions) ≡ sessions_fit (environment_of l.self) l.params l.processes l.declared l.sessions
