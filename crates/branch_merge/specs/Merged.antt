-- The least code above two codes of a table.
use Rattle.std.specs.Prelude.{◌≡◌, ◌<◌, ◌++◌, List, ◌∷◌, [], length}
use Rattle.endpoint_code.specs.declared.code.CodeId.{CodeId}
use Rattle.endpoint_code.specs.declared.code.CodeNode.{CodeNode}
use Rattle.endpoint_code.specs.Trees.{code_at}
use Rattle.endpoint_code.specs.LeastAbove.{IsLeastAbove}

-- the table has all old nodes in their places, and may have more after them
pub record Keeps (old new : List CodeNode) : Type 0 where
  pub more : List CodeNode
  pub is : new ≡ old ++ more

-- the code at id is the least above those at a and b in the old table
pub record IsMerged (old new : List CodeNode) (a b id : CodeId) : Type 0 where
  pub inside : id.0 < length new
  pub least : IsLeastAbove (code_at old a ∷ code_at old b ∷ []) (code_at new id)
