use Rattle.std.proofs.Common.{◌≤◌}
use Rattle.std.specs.Prelude.{Option}
use Rattle.chor_base.specs.declared.fault.Fault.{Fault}
use Rattle.chor_tree.specs.Names.{IsBodyFault}
use Rattle.chor_host.specs.Functions.{names_of}
use Rattle.chor_host.specs.Tables.{functions_of}
use Rattle.chor_base.specs.Faults.{earlier, IsFirst}
use Rattle.name_resolution.specs.Sets.{BeginsWith}
use Rattle.name_resolution.proofs.declared.Declared.+first_in_body.Given as goal

abbrev pub decreases-first_in_body : goal.decreases-first_in_body
decreases-first_in_body g l = l.id.0

abbrev pub invariant-loop-node : goal.invariant-loop-node
invariant-loop-node g l = record {
  rest : (o : Option Fault) → IsFirst (λ x. IsBodyFault l.self.file.now (names_of (functions_of l.hosts)) x l.bound l.at) o → IsFirst (λ x. IsBodyFault l.self.file.now (names_of (functions_of l.hosts)) x l.fn.bound l.fn.id) (earlier l.first o);
  begins : BeginsWith l.fn.bound l.bound;
  below : l.at.0 ≤ l.fn.id.0;
}

abbrev pub decreases-loop-node : goal.decreases-loop-node
decreases-loop-node g l = l.at.0
