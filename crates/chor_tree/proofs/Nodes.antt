-- A node, those that follow it, and the block that begins there.
use Rattle.std.proofs.Common.{◌≡◌, ◌<◌, ◌≤◌, ℕ, List, length, refl, sym, subst, Some, None, inl, inr}
use Rattle.std.specs.Prelude.{Contains, slice_get}
use Rattle.std.proofs.lemmas.Option.{slice_get_cases}
use Rattle.chor_base.specs.declared.rule.Place.{Place}
use Rattle.chor_tree.specs.declared.file.File.{File}
use Rattle.chor_tree.specs.declared.tree.Form.{Form}
use Rattle.chor_tree.specs.declared.tree.Form.TheVariants.{Start, Value, Label, Give, Set, Host, Show, If, Call, End}
use Rattle.chor_tree.specs.declared.tree.Node.{Node}
use Rattle.chor_tree.specs.declared.tree.NodeId.{NodeId}
use Rattle.chor_tree.specs.Children.{children_of, IsClosed}
use Rattle.chor_tree.specs.Source.{Block, Ends, nowhere, place_of, block_of, blocks_of, body_of}
use Rattle.chor_tree.proofs.Blocks.{block_at, block_past}

-- what follows a node comes before it in the table
pub child_below : (nodes : List Node) (i : ℕ) (n : Node) (next : NodeId) → IsClosed nodes → slice_get nodes i ≡ Some n → Contains (children_of n.form) next → next.0 < i
child_below nodes i n next closed at m = subst (λ c. c.0 < i) m.2 (closed i n at m.0 next m.1)

-- a block begins where its node does
pub place_same : (bs : List Block) (p : Place) (f : Form) → place_of (block_of bs p f) ≡ p
place_same bs p (Start c k active serve next) = refl
place_same bs p (Value from e to x k next) = refl
place_same bs p (Label from to k l next) = refl
place_same bs p (Give from to k given next) = refl
place_same bs p (Set q x e next) = refl
place_same bs p (Host q x f l r next) = refl
place_same bs p (Show q e next) = refl
place_same bs p (If q e first second) = refl
place_same bs p (Call f ps ss) = refl
place_same bs p End = refl

module _ (f : File) (id : NodeId) where
  -- the block at a node
  pub block_is : (n : Node) → slice_get f.tree.nodes id.0 ≡ Some n → body_of f id ≡ block_of (blocks_of f.tree.nodes) n.place n.form
  block_is n at = block_at f.tree.nodes id n f.tree.closed at

  -- and where no node is
  pub no_block : None ≡ slice_get f.tree.nodes id.0 → body_of f id ≡ Ends nowhere
  no_block none = block_past f.tree.nodes id (past f.tree.nodes id.0 (sym none))
    where
      past : {X : Type 0} (xs : List X) (i : ℕ) → slice_get xs i ≡ None → length xs ≤ i
      past xs i h = elim (slice_get_cases xs i).1 [ inl (x, lt, e, g) ↦ absurd cc | inr (le, e) ↦ le ]
