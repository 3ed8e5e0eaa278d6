-- How code is made, node by node.
use Rattle.std.specs.Prelude.{◌≡◌, ◌<◌, Bool, true, false, List, [], ◌∷◌, ◌++◌, length, All, Option, Some, None}
use Rattle.chor_base.specs.declared.names.NameId.{NameId}
use Rattle.chor_tree.specs.declared.file.File.{File}
use Rattle.chor_tree.specs.declared.file.Named.{Named as Written}
use Rattle.chor_tree.specs.declared.tree.Form.{Form}
use Rattle.chor_tree.specs.declared.tree.Form.TheVariants.{Value, Label, Give, Set, Host, Show}
use Rattle.chor_semantics.specs.Choreography.{Choreography, Then}
use Rattle.chor_semantics.specs.Sources.{form_tree}
use Rattle.endpoint_code.specs.declared.code.CodeId.{CodeId}
use Rattle.endpoint_code.specs.declared.code.CodeNode.{CodeNode}
use Rattle.endpoint_code.specs.declared.endpoints.Process.{Process}
use Rattle.endpoint_code.specs.Code.{children_of}
use Rattle.endpoint_code.specs.Trees.{CodeTree, Does, Offers, NoArms, Arm, tree_in, node_tree, code_at}
use Rattle.projection.specs.Codes.{Part, Absent, Acts, Learns, part_in, IsCodeOf}
use Rattle.projection.specs.Projects.{body_at}

-- ---- what a process does at a node

-- what the process does at the first node of a choreography
abbrev pub part_before : NameId → Choreography → Part
part_before r (Then n rest) = part_in r n
part_before r _ = Absent

-- what the process does at a node of this form
abbrev pub part_at : NameId → Form → Part
part_at r form = part_before r (form_tree [] form)

-- a value, a label or an endpoint is sent
abbrev pub is_message : Form → Bool
is_message (Value from e to x k next) = true
is_message (Label from to k l next) = true
is_message (Give from to k given next) = true
is_message _ = false

-- a statement of one process
abbrev pub is_own : Form → Bool
is_own (Set p x e next) = true
is_own (Host p x f left right next) = true
is_own (Show p e next) = true
is_own _ = false

-- ---- its node

-- the code of a process that does this and goes on as c
abbrev pub part_tree : Part → CodeTree → CodeTree
part_tree Absent c = c
part_tree (Acts a) c = Does a c
part_tree (Learns k a l) c = Offers k a (Arm l c NoArms)

-- the node does this and goes on at next
pub record IsStep (next : CodeId) (part : Part) (n : CodeNode) : Type 0 where
  pub children : children_of n ≡ next ∷ []
  pub tree : (ts : List CodeTree) → node_tree ts n ≡ part_tree part (tree_in ts next)

-- nothing, or a node that does this
abbrev pub DoesPart : CodeId → Part → Option CodeNode → Type 0
DoesPart next part None = part ≡ Absent
DoesPart next part (Some n) = IsStep next part n

-- what stands at id does this part and goes on at next, and nothing else is added to the table
pub record Puts (old new : List CodeNode) (part : Part) (next id : CodeId) : Type 0 where
  pub inside : id.0 < length new
  pub code : code_at new id ≡ part_tree part (code_at old next)
  pub more : List CodeNode
  pub is : new ≡ old ++ more
  pub only : All (IsStep next part) more

-- ---- codes in a table

-- a code of the process for this choreography stands in the table
pub record HasCode (f : File) (r : NameId) (c : Choreography) (nodes : List CodeNode) (id : CodeId) : Type 0 where
  pub inside : id.0 < length nodes
  pub code : IsCodeOf f.procs r c (code_at nodes id)

-- the process's code for main stands in the table
pub record IsProcessIn (f : File) (nodes : List CodeNode) (p : Written) (q : Process) : Type 0 where
  pub name : q.name ≡ p.name
  pub body : HasCode f p.name (body_at f f.body) nodes q.body
