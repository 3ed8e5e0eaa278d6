-- What is proved of linearity without sets: they are there.
use Rattle.std.specs.Prelude.{List}
use Rattle.chor_base.specs.declared.names.NameId.{NameId}
use Rattle.chor_base.specs.declared.fault.Fault.{Fault}
use Rattle.chor_tree.specs.declared.file.File.{File}
use Rattle.chor_semantics.specs.Choreography.{Choreography}
use Rattle.chor_semantics.specs.Sources.{Procedure}
use Rattle.well_formed.specs.Linear.{ParameterSets}
use Rattle.linearity.specs.Linear.{IsGreatest}
use Rattle.linearity.specs.OrderFaults.{IsOrderFault, IsLinearFile}

-- each channel has greatest sets
abbrev pub GreatestSetsExist : Type 0
GreatestSetsExist = (procs : List Procedure) (main : Choreography) (a : NameId) → (sets : ParameterSets) × IsGreatest procs main a sets

-- a file is linear where no start is a fault, and only there
abbrev pub FaultlessIsLinear : Type 0
FaultlessIsLinear = (f : File) → ((x : Fault) → ¬ IsOrderFault f x) → IsLinearFile f
