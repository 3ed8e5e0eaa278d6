-- The faults of the class of U1 and U2.
use Rattle.std.specs.Prelude.{◌⊎◌}
use Rattle.chor_base.specs.declared.fault.Fault.{Fault}
use Rattle.chor_tree.specs.declared.file.File.{File}
use Rattle.typing_rules.specs.Guarded.{IsGuardFault}
use Rattle.linearity.specs.OrderFaults.{IsOrderFault}

-- x is a call that passes a parameter too early (U1), or a start that isn't ordered after an earlier one (U2)
abbrev pub IsLinearityFault : File → Fault → Type 0
IsLinearityFault f x = IsGuardFault f x ⊎ IsOrderFault f x
