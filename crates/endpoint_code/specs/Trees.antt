-- Endpoint code as trees, wherever its nodes lie in a table.
use Rattle.std.specs.Prelude.{List, [], ◌∷◌, slice_index_or}
use Rattle.node_table.specs.Tables as table
use Rattle.chor_base.specs.declared.names.NameId.{NameId}
use Rattle.chor_base.specs.Expr.{Term, term_of}
use Rattle.endpoint_code.specs.declared.code.CodeId.{CodeId}
use Rattle.endpoint_code.specs.declared.code.CodeNode.{CodeNode}
use Rattle.endpoint_code.specs.declared.code.CodeNode.TheVariants.{Join, Send, Recv, Pick, Branch, Throw, Catch, Set, Show, Host, If, Call, End}

-- what a process does before it goes on in one way
pub data Action : Type 0 where
  Joins : (channel role session : NameId) → Action
  Sends : (session to : NameId) (e : Term) → Action
  Receives : (session from x : NameId) → Action
  Selects : (session to label : NameId) → Action
  Gives : (session to given : NameId) → Action
  Gains : (session from gained : NameId) → Action
  Sets : (x : NameId) (e : Term) → Action
  Shows : (e : Term) → Action
  Asks : (x f : NameId) (left right : Term) → Action

-- a code: an action and the rest, a branch with its arms, a conditional with its two branches, a call, or the end
mutual
  pub data CodeTree : Type 0 where
    Does : (action : Action) (rest : CodeTree) → CodeTree
    Offers : (session from : NameId) (arms : Arms) → CodeTree
    Tests : (e : Term) (first second : CodeTree) → CodeTree
    Calls : (procedure param : NameId) (sessions : List NameId) → CodeTree
    Ends : CodeTree

  -- the labels that a branch offers, each with the code that follows
  pub data Arms : Type 0 where
    NoArms : Arms
    Arm : (label : NameId) (code : CodeTree) (rest : Arms) → Arms

-- the tree that stands at a number
abbrev pub tree_in : List CodeTree → CodeId → CodeTree
tree_in trees id = slice_index_or trees id.0 Ends

-- the arms of a branch as trees, where these are the trees of the nodes before
abbrev pub arms_in : List CodeTree → List (NameId × CodeId) → Arms
arms_in ts [] = NoArms
arms_in ts (arm ∷ arms) = Arm arm.0 (tree_in ts arm.1) (arms_in ts arms)

-- the tree of a node, where the trees of those before it in the table are known
abbrev pub node_tree : List CodeTree → CodeNode → CodeTree
node_tree ts (Join c r k next) = Does (Joins c r k) (tree_in ts next)
node_tree ts (Send k b e next) = Does (Sends k b (term_of e)) (tree_in ts next)
node_tree ts (Recv k a x next) = Does (Receives k a x) (tree_in ts next)
node_tree ts (Pick k b l next) = Does (Selects k b l) (tree_in ts next)
node_tree ts (Branch k a arms) = Offers k a (arms_in ts arms)
node_tree ts (Throw k b h next) = Does (Gives k b h) (tree_in ts next)
node_tree ts (Catch k a h next) = Does (Gains k a h) (tree_in ts next)
node_tree ts (Set x e next) = Does (Sets x (term_of e)) (tree_in ts next)
node_tree ts (Show e next) = Does (Shows (term_of e)) (tree_in ts next)
node_tree ts (Host x f a b next) = Does (Asks x f (term_of a) (term_of b)) (tree_in ts next)
node_tree ts (If e first second) = Tests (term_of e) (tree_in ts first) (tree_in ts second)
node_tree ts (Call f p ss) = Calls f p ss
node_tree ts End = Ends

-- the tree at each number of a table
abbrev pub trees_of : List CodeNode → List CodeTree
trees_of nodes = table.trees_of node_tree nodes

-- The code that stands at a number of a table
abbrev pub code_at : List CodeNode → CodeId → CodeTree
code_at nodes id = tree_in (trees_of nodes) id
