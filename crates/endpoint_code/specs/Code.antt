-- The nodes that follow a node of endpoint code.
use Rattle.std.specs.Prelude.{ℕ, ◌≡◌, ◌<◌, List, [], ◌∷◌, map, All, Some, slice_get}
use Rattle.endpoint_code.specs.declared.code.CodeId.{CodeId}
use Rattle.endpoint_code.specs.declared.code.CodeNode.{CodeNode}
use Rattle.endpoint_code.specs.declared.code.CodeNode.TheVariants.{Join, Send, Recv, Pick, Branch, Throw, Catch, Set, Show, Host, If, Call, End}

abbrev pub children_of : CodeNode → List CodeId
children_of (Join c r k next) = next ∷ []
children_of (Send k b e next) = next ∷ []
children_of (Recv k a x next) = next ∷ []
children_of (Pick k b l next) = next ∷ []
children_of (Branch k a arms) = map (λ arm. arm.1) arms
children_of (Throw k b h next) = next ∷ []
children_of (Catch k a h next) = next ∷ []
children_of (Set x e next) = next ∷ []
children_of (Show e next) = next ∷ []
children_of (Host x f a b next) = next ∷ []
children_of (If e first second) = first ∷ second ∷ []
children_of (Call f p ss) = []
children_of End = []

-- each node comes after those that follow it
abbrev pub IsClosed : List CodeNode → Type 0
IsClosed nodes = (i : ℕ) (n : CodeNode) → slice_get nodes i ≡ Some n → All (λ c. c.0 < i) (children_of n)
