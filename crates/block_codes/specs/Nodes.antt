-- How a block goes on after its first node.
use Rattle.std.specs.Prelude.{◌≡◌, ◌<◌, List, [], ◌∷◌, map, length, All, Option, None}
use Rattle.chor_base.specs.declared.names.NameId.{NameId}
use Rattle.chor_base.specs.declared.rule.Place.{Place}
use Rattle.chor_base.specs.declared.expr.Expr.{Expr}
use Rattle.chor_tree.specs.declared.file.File.{File}
use Rattle.chor_tree.specs.declared.file.Named.{Named as Written}
use Rattle.chor_tree.specs.declared.file.Proc.{Proc}
use Rattle.chor_tree.specs.declared.tree.Form.{Form}
use Rattle.chor_tree.specs.declared.tree.Form.TheVariants.{Start, Call}
use Rattle.chor_tree.specs.declared.tree.Form.TheVariants as form
use Rattle.chor_tree.specs.declared.tree.Node.{Node as TreeNode}
use Rattle.chor_tree.specs.declared.tree.NodeId.{NodeId}
use Rattle.chor_tree.specs.declared.tree.Part.{Part as Taking}
use Rattle.chor_tree.specs.Children.{children_of}
use Rattle.chor_tree.specs.Source.{Statement, Block, Then, body_of, block_in, block_of, blocks_of}
use Rattle.chor_semantics.specs.Choreography.{Node, Content, Communicates, Named as Unbound}
use Rattle.chor_semantics.specs.Sources.{name_ref}
use Rattle.endpoint_code.specs.Trees.{CodeTree, Ends}
use Rattle.chor_semantics.specs.Blocks.{node_of, choreography_of}
use Rattle.projection.specs.Codes.{part_in, proc_named, call_code, IsCodeOf}
use Rattle.projection.specs.Making.{part_at}
use Rattle.projection.specs.MergeFaults.{made_by, sites_in}
use Rattle.block_codes.specs.declared.part.Link.{Link}
use Rattle.block_codes.specs.declared.node.Turn.{Turn}
use Rattle.block_codes.specs.declared.node.Turn.TheVariants.{Next, Branches, Last}

-- the block at a number of a file begins with this node, and the nodes after it come before it in the table
pub record IsAt (f : File) (id : NodeId) (n : TreeNode) : Type 0 where
  pub inside : id.0 < length f.tree.nodes
  pub block : body_of f id ≡ block_of (blocks_of f.tree.nodes) n.place n.form
  pub before : All (λ c. c.0 < id.0) (children_of n.form)

-- the new processes of a start
abbrev pub made_in : Form → List Taking
made_in (Start c k active serve next) = serve
made_in _ = []

abbrev pub names_of : List Taking → List NameId
names_of parts = map (λ p. p.process.name) parts

-- the form is a statement before the node at next
pub record IsStatement (g : Form) (next : NodeId) : Type 0 where
  pub statement : Statement
  pub block : (bs : List Block) (place : Place) → block_of bs place g ≡ Then place statement (block_in bs next)
  pub made : made_by statement ≡ names_of (made_in g)
  pub part : (r : NameId) → part_at r g ≡ part_in r (node_of statement)
  pub child : children_of g ≡ next ∷ []

-- the form is a conditional with these branches
pub record IsConditional (g : Form) (first second : NodeId) : Type 0 where
  pub decider : Written
  pub test : Expr
  pub is : g ≡ form.If decider test first second

-- the code of a process at a call; it ends where no call is
abbrev pub call_in : List Proc → NameId → Form → CodeTree
call_in procs r (Call f ps ks) = call_code r f.name (map name_ref ps) (map name_ref ks) (proc_named procs f.name)
call_in procs r _ = Ends

-- the procedure that a form calls
abbrev pub called_in : List Proc → Form → Option Proc
called_in procs (Call f ps ks) = proc_named procs f.name
called_in procs _ = None

-- the form is a call or the end
pub record IsLast (g : Form) : Type 0 where
  pub codes : (procs : List Proc) (r : NameId) (bs : List Block) (place : Place) → IsCodeOf procs r (choreography_of (block_of bs place g)) (call_in procs r g)
  pub sites : (scope : List NameId) (bs : List Block) (place : Place) → sites_in scope (block_of bs place g) ≡ []

abbrev pub GoesOn : Form → Turn → Type 0
GoesOn g (Next next) = IsStatement g next
GoesOn g (Branches first second) = IsConditional g first second
GoesOn g Last = IsLast g

-- what goes over a link, from one process to another in a session
abbrev pub over : Link → Content → Node
over link w = Communicates (Unbound link.session.0 0) (name_ref link.from.process) link.from.role.name (name_ref link.to.process) link.to.role.name w
