-- What each process of a list does at a node.
use Rattle.std.specs.Prelude.{◌≡◌, ◌<◌, List, [], length, Option, Some, None}
use Rattle.std.specs.List.{AllZip}
use Rattle.chor_base.specs.declared.names.NameId.{NameId}
use Rattle.chor_tree.specs.declared.file.Proc.{Proc}
use Rattle.chor_tree.specs.declared.tree.Form.{Form}
use Rattle.endpoint_code.specs.declared.code.CodeId.{CodeId}
use Rattle.endpoint_code.specs.declared.code.CodeNode.{CodeNode}
use Rattle.endpoint_code.specs.Code.{children_of}
use Rattle.endpoint_code.specs.Trees.{CodeTree, Ends, code_at, node_tree}
use Rattle.branch_merge.specs.Merged.{Keeps}
use Rattle.projection.specs.Making.{part_tree, part_at}
use Rattle.block_codes.specs.declared.coded.Coded.{Coded}
use Rattle.block_codes.specs.Nodes.{call_in}

-- the same process, which does its part at the form and goes on with its old code
pub record IsPut (old new : List CodeNode) (g : Form) (x y : Coded) : Type 0 where
  pub process : y.process ≡ x.process
  pub inside : y.code.0 < length new
  pub code : code_at new y.code ≡ part_tree (part_at x.process g) (code_at old x.code)

-- all of these do, one for one, and old nodes stay
pub record ArePut (old new : List CodeNode) (g : Form) (xs ys : List Coded) : Type 0 where
  pub kept : Keeps old new
  pub each : AllZip (IsPut old new g) xs ys

-- the number of a table's first node
abbrev pub first_id : CodeId
first_id = record { 0 = 0 }

-- the end stands at id, and old nodes stay
pub record IsEndAt (old new : List CodeNode) (id : CodeId) : Type 0 where
  pub kept : Keeps old new
  pub inside : id.0 < length new
  pub code : code_at new id ≡ Ends

-- the node is this code, and nothing follows it; no node is the end
abbrev pub IsLeaf : CodeTree → Option CodeNode → Type 0
IsLeaf q None = q ≡ Ends
IsLeaf q (Some n) = (children_of n ≡ []) × ((ts : List CodeTree) → node_tree ts n ≡ q)

-- the process's code at a call, or the end, stands at id, and old nodes stay
pub record IsCallAt (procs : List Proc) (g : Form) (old new : List CodeNode) (r : NameId) (id : CodeId) : Type 0 where
  pub kept : Keeps old new
  pub inside : id.0 < length new
  pub code : code_at new id ≡ call_in procs r g

-- the process goes on as a call says, or ends
pub record IsCalled (procs : List Proc) (g : Form) (new : List CodeNode) (r : NameId) (y : Coded) : Type 0 where
  pub process : y.process ≡ r
  pub inside : y.code.0 < length new
  pub code : code_at new y.code ≡ call_in procs r g

-- all of these do, one for one, and old nodes stay
pub record AreCalled (procs : List Proc) (g : Form) (old new : List CodeNode) (scope : List NameId) (ys : List Coded) : Type 0 where
  pub kept : Keeps old new
  pub each : AllZip (IsCalled procs g new) scope ys
