-- The fault of a node.
use Rattle.std.specs.Prelude.{Option, Some, None}
use Rattle.chor_base.specs.declared.fault.Fault.{Fault}
use Rattle.chor_base.specs.declared.rule.Place.{Place}
use Rattle.chor_base.specs.Faults.{fault}
use Rattle.delegation.specs.Checks.{Check}

-- the rule that is violated, if any, with its place
abbrev pub fault_in : Place → Check → Option Fault
fault_in p None = None
fault_in p (Some r) = Some (fault r p)
