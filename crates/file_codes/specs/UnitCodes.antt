-- Codes of single processes, each in a table of its own.
use Rattle.std.specs.Prelude.{[], List, Option, IfSome}
use Rattle.std.specs.List.{All, AllZip}
use Rattle.chor_base.specs.declared.names.NameId.{NameId}
use Rattle.chor_tree.specs.declared.file.File.{File}
use Rattle.chor_tree.specs.declared.tree.NodeId.{NodeId}
use Rattle.chor_tree.specs.Source.{Block, body_of}
use Rattle.endpoint_code.specs.declared.code.CodeNode.{CodeNode}
use Rattle.projection.specs.MergeFaults.{sites_in, HasClash}
use Rattle.block_codes.specs.declared.coded.Coded.{Coded}
use Rattle.block_codes.specs.Alone.{HasCode, sites_of}
use Rattle.block_codes.specs.Walks.{IsCoded}
use Rattle.file_codes.specs.declared.prepared.UnitCode.{UnitCode}

-- it is the code of its process at its body, and no branches clash for that process
abbrev pub IsUnitCode : File → UnitCode → Type 0
IsUnitCode f unit = HasCode f (body_of f unit.at) unit.process [] unit.code.nodes unit.id

-- if it is there, it is such a code
abbrev pub MayBeUnitCode : File → Option UnitCode → Type 0
MayBeUnitCode f unit = IfSome unit (IsUnitCode f)

-- no branches of the body clash for a process that one of its starts makes
abbrev pub IsCleanBody : File → NodeId → Type 0
IsCleanBody f id = All (λ s. HasClash f s → ⊥) (sites_in [] (body_of f id))

-- if it is there, it is such a body
abbrev pub MayBeCleanBody : File → Option NodeId → Type 0
MayBeCleanBody f id = IfSome id (IsCleanBody f)

-- the processes have codes for the block, one for one, and no conditional of it clashes for one of them
pub record AreScopeCodes (f : File) (b : Block) (scope : List NameId) (nodes : List CodeNode) (xs : List Coded) : Type 0 where
  pub each : AllZip (IsCoded f.procs nodes b) scope xs
  pub clean : All (λ r. All (λ s. HasClash f s → ⊥) (sites_of r b)) scope
