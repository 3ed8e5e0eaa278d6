-- A source file as its text says it: statements and blocks without where they lie in a table (this project's own).
use Rattle.std.specs.Prelude.{List, [], ◌∷◌, map, slice_index_or}
use Rattle.node_table.specs.Tables.{trees_of}
use Rattle.chor_base.specs.declared.names.NameId.{NameId}
use Rattle.chor_base.specs.declared.rule.Place.{Place}
use Rattle.chor_base.specs.Expr.{Term, term_of}
use Rattle.chor_tree.specs.declared.file.File.{File}
use Rattle.chor_tree.specs.declared.header.Header.{Header}
use Rattle.chor_tree.specs.declared.file.Named.{Named}
use Rattle.chor_tree.specs.declared.file.Service.{Service}
use Rattle.chor_tree.specs.declared.file.Proc.{Proc}
use Rattle.chor_tree.specs.declared.file.ProcParam.{ProcParam}
use Rattle.chor_tree.specs.declared.file.SessionParam.{SessionParam}
use Rattle.chor_tree.specs.Protocols.{Protocol}
use Rattle.chor_tree.specs.declared.tree.Part.{Part}
use Rattle.chor_tree.specs.declared.tree.NodeId.{NodeId}
use Rattle.chor_tree.specs.declared.tree.Node.{Node}
use Rattle.chor_tree.specs.declared.tree.Form.{Form}
use Rattle.chor_tree.specs.declared.tree.Form.TheVariants as form

-- a statement: a start with its active and its new processes; a value, a label or an endpoint that is sent; a variable
-- that is set to an expression, or to what a host function answers; an expression that is shown
pub data Statement : Type 0 where
  Starts : (channel session : Named) (active serve : List Part) → Statement
  Sends : (from : Part) (expr : Term) (to : Part) (var : NameId) (session : Named) → Statement
  Selects : (from to : Part) (session : Named) (label : NameId) → Statement
  Gives : (from to : Part) (session : Named) (given : Part) → Statement
  Sets : (process : Named) (var : NameId) (expr : Term) → Statement
  Asks : (process : Named) (var : NameId) (function : Named) (left right : Term) → Statement
  Shows : (process : Named) (expr : Term) → Statement

-- a block, each statement and its tail with the place where it begins
pub data Block : Type 0 where
  Then : (place : Place) (statement : Statement) (next : Block) → Block
  Either : (place : Place) (process : Named) (expr : Term) (first second : Block) → Block
  Calls : (place : Place) (procedure : Named) (processes sessions : List Named) → Block
  Ends : (place : Place) → Block

-- where a block begins
abbrev pub place_of : Block → Place
place_of (Then p s next) = p
place_of (Either p q e first second) = p
place_of (Calls p g ps ks) = p
place_of (Ends p) = p

-- the blocks after its first statement or its condition
abbrev pub tails_of : Block → List Block
tails_of (Then p s next) = next ∷ []
tails_of (Either p q e first second) = first ∷ second ∷ []
tails_of (Calls p g ps ks) = []
tails_of (Ends p) = []

-- a procedure with its body
pub record Procedure : Type 0 where
  pub name : Named
  pub params : List ProcParam
  pub sessions : List SessionParam
  pub body : Block

-- what stands before main
pub record Items : Type 0 where
  pub protocols : List Protocol
  pub services : List Service
  pub procedures : List Procedure

-- a whole source
pub record Source : Type 0 where
  pub header : Header
  pub items : Items
  pub processes : List Named
  pub body : Block

-- ---- the source that a file is

-- the place of a block that isn't there
abbrev pub nowhere : Place
nowhere = record { line = 0; col = 0 }

-- the block that begins at a node
abbrev pub block_in : List Block → NodeId → Block
block_in blocks id = slice_index_or blocks id.0 (Ends nowhere)

-- the block that begins with a node, where those of the nodes before it in the table are known
abbrev pub block_of : List Block → Place → Form → Block
block_of bs p (form.Start c k active serve next) = Then p (Starts c k active serve) (block_in bs next)
block_of bs p (form.Value from e to x k next) = Then p (Sends from (term_of e) to x k) (block_in bs next)
block_of bs p (form.Label from to k l next) = Then p (Selects from to k l) (block_in bs next)
block_of bs p (form.Give from to k given next) = Then p (Gives from to k given) (block_in bs next)
block_of bs p (form.Set q x e next) = Then p (Sets q x (term_of e)) (block_in bs next)
block_of bs p (form.Host q x f a b next) = Then p (Asks q x f (term_of a) (term_of b)) (block_in bs next)
block_of bs p (form.Show q e next) = Then p (Shows q (term_of e)) (block_in bs next)
block_of bs p (form.If q e first second) = Either p q (term_of e) (block_in bs first) (block_in bs second)
block_of bs p (form.Call f ps ss) = Calls p f ps ss
block_of bs p form.End = Ends p

-- the block that begins at a node, where these are the blocks of the nodes before it
abbrev pub node_block : List Block → Node → Block
node_block bs n = block_of bs n.place n.form

-- the block that begins at each node of a table
abbrev pub blocks_of : List Node → List Block
blocks_of nodes = trees_of node_block nodes

-- the procedure with its body as a block
abbrev pub procedure_of : List Node → Proc → Procedure
procedure_of nodes p = record {
  name = p.name;
  params = p.params;
  sessions = p.sessions;
  body = block_in (blocks_of nodes) p.body;
}

-- the block that begins at a node of a file
abbrev pub body_of : File → NodeId → Block
body_of f id = block_in (blocks_of f.tree.nodes) id

-- The source that a file is
abbrev pub source_of : File → Source
source_of f = record {
  header = f.header;
  items = record {
    protocols = f.protocols;
    services = f.services;
    procedures = map (procedure_of f.tree.nodes) f.procs;
  };
  processes = f.processes;
  body = block_in (blocks_of f.tree.nodes) f.body;
}
