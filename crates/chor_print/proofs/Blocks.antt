-- The lines of a node's block are made of those of the nodes that follow it.
use Rattle.std.proofs.Common.{◌≡◌, ℕ, ◌<◌, ◌≤◌, List, [], ◌∷◌, length, refl, Some, codes}
use Rattle.std.specs.Prelude.{slice_get, slice_index_or, All}
use Rattle.std.proofs.lemmas.List.Elements.{All-head, All-tail}
use Rattle.node_table.proofs.Tables.{tree_at_node, tree_past}
use Rattle.chor_tree.specs.declared.file.File.{File}
use Rattle.chor_tree.specs.declared.tree.NodeId.{NodeId}
use Rattle.chor_tree.specs.declared.tree.Node.{Node}
use Rattle.chor_tree.specs.declared.tree.Form.{Form}
use Rattle.chor_tree.specs.declared.tree.Form.TheVariants.{Start, Value, Label, Give, Set, Host, Show, If, Call, End}
use Rattle.chor_tree.specs.Children.{children_of, IsClosed}
use Rattle.chor_print.specs.Lines.{lines_in, lines_of_form, node_lines, blocks_of, block_lines}

-- the lines of blocks, by their nodes
abbrev Blocks : Type 0
Blocks = List (List (List ℕ))

-- what stands for a block that isn't there
abbrev ended : List (List ℕ)
ended = codes "end" ∷ []

abbrev Before : ℕ → List NodeId → Type 0
Before i cs = All (λ c. c.0 < i) cs

module _ (f : File) where
  module _ (bs cs : Blocks) (i : ℕ) (h : (j : ℕ) → j < i → slice_index_or cs j ended ≡ slice_index_or bs j ended) where
    at_head : (c : NodeId) (rest : List NodeId) → Before i (c ∷ rest) → lines_in cs c ≡ lines_in bs c
    at_head c rest a = h c.0 (All-head (λ d. d.0 < i) c rest a)

    -- a node's lines depend on the lines of those before it alone
    form_same : (n : Form) → Before i (children_of n) → lines_of_form f cs n ≡ lines_of_form f bs n
    form_same (Start c k active serve next) a = let e = at_head next [] a in cc
    form_same (Value from e to x k next) a = let g = at_head next [] a in cc
    form_same (Label from to k l next) a = let e = at_head next [] a in cc
    form_same (Give from to k given next) a = let e = at_head next [] a in cc
    form_same (Set p x e next) a = let g = at_head next [] a in cc
    form_same (Host p x g left right next) a = let e = at_head next [] a in cc
    form_same (Show p e next) a = let g = at_head next [] a in cc
    form_same (If p e first second) a =
        let g = at_head first (second ∷ []) a in
        let k = at_head second [] (All-tail (λ d. d.0 < i) first (second ∷ []) a) in cc
    form_same (Call g ps ks) a = refl
    form_same End a = refl

  pub block_at : (id : NodeId) (n : Node) → IsClosed f.tree.nodes → slice_get f.tree.nodes id.0 ≡ Some n → block_lines f id ≡ lines_of_form f (blocks_of f) n.form
  block_at id n closed h =
      tree_at_node (node_lines f) ended (λ i m. Before i (children_of m.form)) (λ bs cs i old m. form_same bs cs i old m.form) f.tree.nodes id.0 n closed h

  -- a block that isn't there is an end
  pub no_block : (id : NodeId) → length f.tree.nodes ≤ id.0 → block_lines f id ≡ ended
  no_block id h = tree_past (node_lines f) ended f.tree.nodes id.0 h
