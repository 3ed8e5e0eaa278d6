use Rattle.std.proofs.Common.{◌≤◌}
use Rattle.std.specs.Prelude.{Option}
use Rattle.chor_base.specs.declared.fault.Fault.{Fault}
use Rattle.chor_base.specs.Faults.{IsFirst}
use Rattle.chor_tree.specs.Source.{body_of}
use Rattle.guard_check.specs.InBodies.{IsUnguardedIn}
use Rattle.guard_check.proofs.bodies.+first_in_body.Given as goal

abbrev pub decreases-first_in_body : goal.decreases-first_in_body
decreases-first_in_body l = l.id.0

abbrev pub invariant-loop-node : goal.invariant-loop-node
invariant-loop-node l = record {
  rest : (o : Option Fault) → IsFirst (IsUnguardedIn l.unnamed (body_of l.file l.at)) o → IsFirst (IsUnguardedIn l.fn.processes (body_of l.file l.fn.id)) o;
  below : l.at.0 ≤ l.fn.id.0;
}

abbrev pub decreases-loop-node : goal.decreases-loop-node
decreases-loop-node l = l.at.0
