use Rattle.std.proofs.Common.{◌≡◌, ◌++◌, drop}
use Rattle.endpoint_names.specs.Faults.{names_in}
use Rattle.endpoint_names.proofs.bound.Bound.of_sessions.Given as goal

abbrev pub invariant-loop-session : goal.invariant-loop-session
invariant-loop-session l = l.names.items ++ names_in (drop l.session-index l.sessions) ≡ names_in l.sessions
