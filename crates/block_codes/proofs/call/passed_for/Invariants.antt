use Rattle.std.proofs.Common.{◌≡◌, ◌++◌, length, map}
use Rattle.chor_semantics.specs.Sources.{name_ref}
use Rattle.projection.specs.Codes.{passed_for}
use Rattle.block_codes.proofs.call.passed_for.Given as goal

abbrev pub invariant-loop-session : goal.invariant-loop-session
invariant-loop-session l = l.names ++ passed_for l.param l.sessions (map name_ref l.passed) ≡ passed_for l.param l.fn.sessions (map name_ref l.fn.passed)

abbrev pub decreases-loop-session : goal.decreases-loop-session
decreases-loop-session l = length l.sessions
