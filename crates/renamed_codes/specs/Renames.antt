-- Nodes and codes with their sessions exchanged.
use Rattle.std.specs.Prelude.{◌≡◌, ◌<◌, List, [], ◌∷◌, map, length}
use Rattle.chor_base.specs.declared.names.NameId.{NameId}
use Rattle.endpoint_code.specs.declared.code.CodeId.{CodeId}
use Rattle.endpoint_code.specs.declared.code.CodeNode.{CodeNode}
use Rattle.endpoint_code.specs.Code.{children_of}
use Rattle.endpoint_code.specs.Trees.{CodeTree, tree_in, node_tree, code_at}
use Rattle.branch_merge.specs.Merged.{Keeps}
use Rattle.projection.specs.Renamed.{exchanged, renamed}
use Rattle.renamed_codes.specs.declared.exchange.Exchange.{Exchange}

-- each session's name with the two exchanged
abbrev pub by : Exchange → NameId → NameId
by e x = exchanged e.one e.other x

-- the same labels before other nodes
abbrev pub relabelled : List (NameId × CodeId) → List CodeId → List (NameId × CodeId)
relabelled [] cs = []
relabelled (arm ∷ arms) [] = []
relabelled (arm ∷ arms) (c ∷ cs) = (arm.0, c) ∷ relabelled arms cs

-- a node with these after it: where their codes are the renamed codes of the nodes after another, its code is that
-- node's code renamed
pub record IsNodeRenamed (e : Exchange) (old : CodeNode) (to : List CodeId) (new : CodeNode) : Type 0 where
  pub children : children_of new ≡ to
  pub code : (us ts : List CodeTree) → map (λ c. renamed (by e) (tree_in us c)) (children_of old) ≡ map (tree_in ts) to → node_tree ts new ≡ renamed (by e) (node_tree us old)

-- the code at r is that at id in the old table, renamed; old nodes stay
pub record IsRenamed (e : Exchange) (old new : List CodeNode) (id r : CodeId) : Type 0 where
  pub kept : Keeps old new
  pub inside : r.0 < length new
  pub code : code_at new r ≡ renamed (by e) (code_at old id)
