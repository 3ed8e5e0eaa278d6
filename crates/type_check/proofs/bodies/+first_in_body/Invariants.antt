use Rattle.std.proofs.Common.{◌≤◌}
use Rattle.typing_steps.specs.Known.{environment_of}
use Rattle.type_check.specs.Resolved.{IsResolved}
use Rattle.type_check.proofs.Turns.{Rest}
use Rattle.type_check.proofs.Walks.{IsFaultAt}
use Rattle.type_check.proofs.bodies.+first_in_body.Given as goal

abbrev pub decreases-first_in_body : goal.decreases-first_in_body
decreases-first_in_body l = l.id.0

abbrev pub invariant-body : goal.invariant-body
invariant-body l = record {
  rest : Rest (IsFaultAt l.file (environment_of l.fn.known) l.fn.id) l.first (IsFaultAt l.file (environment_of l.known) l.at);
  resolved : IsResolved l.file (environment_of l.known) l.at;
  below : l.at.0 ≤ l.fn.id.0;
}

abbrev pub decreases-body : goal.decreases-body
decreases-body l = l.at.0
