-- The lines of a block, without their ends (this project's own). A block is known by the node with which it begins.
use Rattle.std.specs.Prelude.{ℕ, List, [], ◌∷◌, ◌++◌, map, slice_index_or, codes}
use Rattle.node_table.specs.Tables as table
use Rattle.chor_base.specs.Expr.{term_of}
use Rattle.chor_tree.specs.declared.file.File.{File}
use Rattle.chor_tree.specs.declared.tree.NodeId.{NodeId}
use Rattle.chor_tree.specs.declared.tree.Node.{Node}
use Rattle.chor_tree.specs.declared.tree.Form.{Form}
use Rattle.chor_tree.specs.declared.tree.Form.TheVariants.{Start, Value, Label, Give, Set, Host, Show, If, Call, End}
use Rattle.chor_print.specs.Statements.{start_text, value_text, label_text, give_text, set_text, host_text, show_text, if_text, call_text}

-- lines within one more pair of braces: two spaces before each
abbrev pub indented : List (List ℕ) → List (List ℕ)
indented lines = map (λ line. codes "  " ++ line) lines

-- a line that opens a brace, what stands in it, and the line that closes it
abbrev pub braced : List ℕ → List (List ℕ) → List (List ℕ)
braced head lines = head ∷ (indented lines ++ codes "}" ∷ [])

-- a statement, and the lines that follow it
abbrev pub stated : List ℕ → List (List ℕ) → List (List ℕ)
stated statement lines = (statement ++ codes ";") ∷ lines

-- the lines of the block that begins at a node; a node that isn't there is an end
abbrev pub lines_in : List (List (List ℕ)) → NodeId → List (List ℕ)
lines_in blocks id = slice_index_or blocks id.0 (codes "end" ∷ [])

-- the lines of the block that begins with a node, where those of the nodes before it in the table are known
abbrev pub lines_of_form : File → List (List (List ℕ)) → Form → List (List ℕ)
lines_of_form f bs (Start c k active serve next) = stated (start_text f c k active serve) (lines_in bs next)
lines_of_form f bs (Value from e to x k next) = stated (value_text f from (term_of e) to x k) (lines_in bs next)
lines_of_form f bs (Label from to k l next) = stated (label_text f from to k l) (lines_in bs next)
lines_of_form f bs (Give from to k given next) = stated (give_text f from to k given) (lines_in bs next)
lines_of_form f bs (Set p x e next) = stated (set_text f p x (term_of e)) (lines_in bs next)
lines_of_form f bs (Host p x g left right next) = stated (host_text f p x g (term_of left) (term_of right)) (lines_in bs next)
lines_of_form f bs (Show p e next) = stated (show_text f p (term_of e)) (lines_in bs next)
lines_of_form f bs (If p e first second) =
    if_text f p (term_of e) ∷ (indented (lines_in bs first) ++ codes "} else {" ∷ (indented (lines_in bs second) ++ codes "}" ∷ []))
lines_of_form f bs (Call g ps ks) = call_text f g ps ks ∷ []
lines_of_form f bs End = codes "end" ∷ []

-- the lines of the block that begins at a node, where these are those of the nodes before it
abbrev pub node_lines : File → List (List (List ℕ)) → Node → List (List ℕ)
node_lines f bs n = lines_of_form f bs n.form

-- the lines of the block that begins at each node of a file
abbrev pub blocks_of : File → List (List (List ℕ))
blocks_of f = table.trees_of (node_lines f) f.tree.nodes

-- The lines of the block that begins at a node of a file
abbrev pub block_lines : File → NodeId → List (List ℕ)
block_lines f id = lines_in (blocks_of f) id
