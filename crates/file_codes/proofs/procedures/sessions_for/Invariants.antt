use Rattle.std.proofs.Common.{◌≡◌, ◌++◌, drop}
use Rattle.projection.specs.Codes.{sessions_for}
use Rattle.file_codes.proofs.procedures.sessions_for.Given as goal

abbrev pub invariant-loop-session : goal.invariant-loop-session
invariant-loop-session l = l.names ++ sessions_for l.param (drop l.session-index l.sessions) ≡ sessions_for l.param l.sessions
