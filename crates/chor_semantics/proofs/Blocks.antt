-- The choreography that begins at a node is that of the block there.
use Rattle.std.proofs.Common.{◌≡◌, ℕ, zero, suc, List, [], ◌∷◌, ◌++◌, map, refl, sym, ap, ◌∙◌}
use Rattle.std.specs.Prelude.{slice_index_or}
use Rattle.node_table.proofs.Tables.{trees_alike}
use Rattle.chor_base.specs.declared.rule.Place.{Place}
use Rattle.chor_tree.specs.declared.tree.NodeId.{NodeId}
use Rattle.chor_tree.specs.declared.tree.Node.{Node}
use Rattle.chor_tree.specs.declared.tree.Form.{Form}
use Rattle.chor_tree.specs.declared.tree.Form.TheVariants.{Start, Value, Label, Give, Set, Host, Show, If, Call, End}
use Rattle.chor_tree.specs.Source.{Block, Ends, nowhere, block_in, block_of, node_block, blocks_of}
use Rattle.chor_semantics.specs.Choreography.{Choreography}
use Rattle.chor_semantics.specs.Sources as tree
use Rattle.chor_semantics.specs.Blocks.{choreography_of}

abbrev all : List Block → List Choreography
all bs = map choreography_of bs

at_number : (bs : List Block) (i : ℕ) → slice_index_or (all bs) i (choreography_of (Ends nowhere)) ≡ choreography_of (slice_index_or bs i (Ends nowhere))
at_number [] i = refl
at_number (b ∷ bs) zero = refl
at_number (b ∷ bs) (suc i) = at_number bs i

in_table : (bs : List Block) (id : NodeId) → choreography_of (block_in bs id) ≡ tree.tree_in (all bs) id
in_table bs id = sym (at_number bs id.0)

of_form : (bs : List Block) (p : Place) (g : Form) → choreography_of (block_of bs p g) ≡ tree.form_tree (all bs) g
of_form bs p (Start c k active serve next) = let e = in_table bs next in cc
of_form bs p (Value from e to x k next) = let h = in_table bs next in cc
of_form bs p (Label from to k l next) = let e = in_table bs next in cc
of_form bs p (Give from to k given next) = let e = in_table bs next in cc
of_form bs p (Set q x e next) = let h = in_table bs next in cc
of_form bs p (Host q x f a b next) = let e = in_table bs next in cc
of_form bs p (Show q e next) = let h = in_table bs next in cc
of_form bs p (If q e first second) = let f = in_table bs first in let g = in_table bs second in cc
of_form bs p (Call f ps ss) = refl
of_form bs p End = refl

pub block_choreography : (nodes : List Node) (id : NodeId) → choreography_of (block_in (blocks_of nodes) id) ≡ tree.tree_in (tree.trees_of nodes) id
block_choreography nodes id =
    let alike = trees_alike node_block tree.node_tree choreography_of (λ bs n. sym (of_form bs n.place n.form)) nodes in
    in_table (blocks_of nodes) id ∙ ap (λ ts. tree.tree_in ts id) (sym alike)

pub choreography_at : (nodes : List Node) (id : NodeId) → tree.tree_in (tree.trees_of nodes) id ≡ choreography_of (block_in (blocks_of nodes) id)
choreography_at nodes id = sym (block_choreography nodes id)
