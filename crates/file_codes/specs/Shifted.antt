-- Nodes of a table that is appended to another.
use Rattle.std.specs.Prelude.{ℕ, ◌+◌, ◌++◌, ◌≡◌, List, map, length}
use Rattle.std.specs.List.{AllZip}
use Rattle.chor_base.specs.declared.names.NameId.{NameId}
use Rattle.endpoint_code.specs.declared.code.CodeId.{CodeId}
use Rattle.endpoint_code.specs.declared.code.CodeNode.{CodeNode}
use Rattle.endpoint_code.specs.Code.{children_of}
use Rattle.endpoint_code.specs.Trees.{CodeTree, node_tree}

-- the number of a node whose table is appended to one of n nodes
abbrev pub shift_id : ℕ → CodeId → CodeId
shift_id n id = record { 0 = n + id.0 }

-- an arm of a branching with its number shifted
abbrev pub shift_arm : ℕ → NameId × CodeId → NameId × CodeId
shift_arm n arm = (arm.0, shift_id n arm.1)

-- the same node, for a table that is appended to one of n nodes: children are shifted, and its tree stays
pub record IsShifted (n : ℕ) (old new : CodeNode) : Type 0 where
  pub children : children_of new ≡ map (shift_id n) (children_of old)
  pub tree : (ts us : List CodeTree) → length ts ≡ n → node_tree (ts ++ us) new ≡ node_tree us old

-- the new table is the old one with this table appended
pub record IsAppended (table old new : List CodeNode) : Type 0 where
  pub more : List CodeNode
  pub is : new ≡ old ++ more
  pub each : AllZip (IsShifted (length old)) table more
