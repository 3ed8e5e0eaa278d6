use Rattle.std.proofs.Common.{◌≡◌, ◌<◌, ℕ}
use Rattle.std.specs.Prelude.{Some, slice_get}
use Rattle.conform.specs.Sessions.{SessionView}
use Rattle.conform.specs.Steps.{IsOver}
use Rattle.conform.proofs.progress.Progress.has_ended.Given as goal

abbrev pub invariant-loop-session : goal.invariant-loop-session
invariant-loop-session l = (n : ℕ) (k : SessionView) → n < l.session-index → slice_get l.self.sessions.items n ≡ Some k → IsOver l.self.types k
