-- A source file as choreographies: the tree that stands at each node of its table, its procedures, and where it begins.
use Rattle.std.specs.Prelude.{ℕ, suc, ◌==◌, List, [], ◌∷◌, map, slice_index_or, if◌then◌else◌}
use Rattle.std.specs.FinMap as fin
use Rattle.node_table.specs.Tables as table
use Rattle.chor_base.specs.declared.names.NameId.{NameId}
use Rattle.chor_base.specs.Expr.{term_of}
use Rattle.chor_base.specs.NameMap.{Variables}
use Rattle.chor_tree.specs.declared.file.File.{File}
use Rattle.chor_tree.specs.declared.file.Named.{Named as Written}
use Rattle.chor_tree.specs.declared.file.Proc.{Proc}
use Rattle.chor_tree.specs.declared.tree.Part.{Part}
use Rattle.chor_tree.specs.declared.tree.NodeId.{NodeId}
use Rattle.chor_tree.specs.declared.tree.Node.{Node as TreeNode}
use Rattle.chor_tree.specs.declared.tree.Form.{Form}
use Rattle.chor_tree.specs.declared.tree.Form.TheVariants.{Start, Value, Label, Give, Set, Host, Show, If, Call, End}
use Rattle.chor_semantics.specs.Choreography.{Ref, Live, Named, OfValue, OfLabel, OfPart, Sets, Shows, Asks, Starts, Communicates, Alone, Choreography, Then, Either, Calls, Ends, instance_of}

-- a name of the source, at the depth of main
abbrev pub name_ref : Written → Ref
name_ref x = Named x.name.0 0

-- the processes of a start with their roles
abbrev pub parts_of : List Part → List (Ref × NameId)
parts_of ps = map (λ p. (name_ref p.process, p.role.name)) ps

-- the names of a start's new processes with their roles
abbrev pub served_of : List Part → List (ℕ × NameId)
served_of ps = map (λ p. (p.process.name.0, p.role.name)) ps

-- the tree that stands at a number
abbrev pub tree_in : List Choreography → NodeId → Choreography
tree_in trees id = slice_index_or trees id.0 Ends

-- the tree of a node, where the trees of those before it in the table are known
abbrev pub form_tree : List Choreography → Form → Choreography
form_tree ts (Start c k active serve next) = Then (Starts c.name 0 k.name.0 (parts_of active) (served_of serve)) (tree_in ts next)
form_tree ts (Value from e to x k next) =
    Then (Communicates (name_ref k) (name_ref from.process) from.role.name (name_ref to.process) to.role.name (OfValue (term_of e) x)) (tree_in ts next)
form_tree ts (Label from to k l next) =
    Then (Communicates (name_ref k) (name_ref from.process) from.role.name (name_ref to.process) to.role.name (OfLabel l)) (tree_in ts next)
form_tree ts (Give from to k given next) =
    Then (Communicates (name_ref k) (name_ref from.process) from.role.name (name_ref to.process) to.role.name (OfPart (name_ref given.process) given.role.name)) (tree_in ts next)
form_tree ts (Set p x e next) = Then (Alone (name_ref p) (Sets x (term_of e))) (tree_in ts next)
form_tree ts (Host p x f a b next) = Then (Alone (name_ref p) (Asks x f.name (term_of a) (term_of b))) (tree_in ts next)
form_tree ts (Show p e next) = Then (Alone (name_ref p) (Shows (term_of e))) (tree_in ts next)
form_tree ts (If p e first second) = Either (name_ref p) (term_of e) (tree_in ts first) (tree_in ts second)
form_tree ts (Call f ps ss) = Calls f.name 0 (map name_ref ps) (map name_ref ss)
form_tree ts End = Ends

-- the choreography at a node, where these are those of the nodes before it
abbrev pub node_tree : List Choreography → TreeNode → Choreography
node_tree ts n = form_tree ts n.form

-- the tree at each number of a table
abbrev pub trees_of : List TreeNode → List Choreography
trees_of nodes = table.trees_of node_tree nodes

-- ---- procedures

-- a procedure: its name, the names of its process and session parameters, and its body
pub record Procedure : Type 0 where
  pub name : NameId
  pub params : List NameId
  pub sessions : List NameId
  pub body : Choreography

-- a procedure with its body as a choreography
abbrev pub procedure_from : List TreeNode → Proc → Procedure
procedure_from nodes p = record {
  name = p.name.name;
  params = map (λ q. q.name.name) p.params;
  sessions = map (λ s. s.name.name) p.sessions;
  body = tree_in (trees_of nodes) p.body;
}

-- the procedures of a file with their bodies as choreographies
abbrev pub procedures_of : File → List Procedure
procedures_of f = map (procedure_from f.tree.nodes) f.procs

-- ---- where a source begins

-- a choreography that runs, the variables of each process by its number, and the next session's number.
-- The next process's number is how many processes have variables
pub record Configuration : Type 0 where
  pub tree : Choreography
  pub vars : List Variables
  pub sid : ℕ

-- the declared processes stand for their numbers, from n on
abbrev pub numbered : ℕ → List Written → ℕ → Ref
numbered n [] y = Named y 0
numbered n (p ∷ ps) y = if p.name.0 == y then Live n else numbered (suc n) ps y

-- The first configuration: main's body with its processes numbered from 0, no variable set, sessions from 0
abbrev pub first_configuration : File → Configuration
first_configuration f = record {
  tree = instance_of 0 (numbered 0 f.processes) (λ y. Named y 0) (tree_in (trees_of f.tree.nodes) f.body);
  vars = map (λ p. fin.empty) f.processes;
  sid = 0;
}
