-- Ways through a table of nodes (this project's own).
use Rattle.std.specs.Prelude.{◌≡◌, List, [], ◌∷◌, Contains, Some, slice_get}
use Rattle.chor_tree.specs.declared.tree.NodeId.{NodeId}
use Rattle.chor_tree.specs.declared.tree.Node.{Node}
use Rattle.chor_tree.specs.Children.{children_of}

-- from the node a to a node, through those between, the last one first
pub data Path (nodes : List Node) (a : NodeId) : NodeId → List NodeId → Type 0 where
  here : Path nodes a a []
  further : {b c : NodeId} {ids : List NodeId} {n : Node}
      → Path nodes a b ids → slice_get nodes b.0 ≡ Some n → Contains (children_of n.form) c
      → Path nodes a c (b ∷ ids)
