-- The nodes that follow a node.
use Rattle.std.specs.Prelude.{ℕ, ◌≡◌, ◌<◌, List, [], ◌∷◌, All, Some, slice_get}
use Rattle.chor_tree.specs.declared.tree.NodeId.{NodeId}
use Rattle.chor_tree.specs.declared.tree.Node.{Node}
use Rattle.chor_tree.specs.declared.tree.Form.{Form}
use Rattle.chor_tree.specs.declared.tree.Form.TheVariants.{Start, Value, Label, Give, Set, Host, Show, If, Call, End}

-- the nodes that follow a node
abbrev pub children_of : Form → List NodeId
children_of (Start c k active serve next) = next ∷ []
children_of (Value from e to x k next) = next ∷ []
children_of (Label from to k l next) = next ∷ []
children_of (Give from to k given next) = next ∷ []
children_of (Set p x e next) = next ∷ []
children_of (Host p x f a b next) = next ∷ []
children_of (Show p e next) = next ∷ []
children_of (If p e first second) = first ∷ second ∷ []
children_of (Call f ps ss) = []
children_of End = []

-- each node comes after those that follow it
abbrev pub IsClosed : List Node → Type 0
IsClosed nodes = (i : ℕ) (n : Node) → slice_get nodes i ≡ Some n → All (λ c. c.0 < i) (children_of n.form)
