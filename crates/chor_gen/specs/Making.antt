-- How the nodes of a generated file come into their table (this project's own).
use Rattle.std.specs.Prelude.{ℕ, Bool, true, ◌≡◌, ◌<◌, ◌+◌, ◌&&◌, List, [], ◌∷◌, ◌++◌, length, map, nat_lt, cond}
use Rattle.std.specs.List.{AllByRecursion, list_all}
use Rattle.chor_base.specs.Words.{with_word}
use Rattle.chor_tree.specs.declared.file.Proc.{Proc}
use Rattle.chor_tree.specs.declared.tree.Form.{Form}
use Rattle.chor_tree.specs.declared.tree.Node.{Node}
use Rattle.chor_tree.specs.declared.tree.NodeId.{NodeId}
use Rattle.chor_tree.specs.Children.{children_of}
use Rattle.chor_tree.specs.Kept.{has_name, has_text, proc_there, proc_filled, form_there, form_filled, followers_in, times}
use Rattle.chor_tree.specs.Source.{Statement, Block, Then, block_in, block_of, blocks_of, procedure_of}
use Rattle.chor_gen.specs.Words.{beginning, named_in, procedure_word}
use Rattle.chor_gen.specs.Generated.{parameters, body_of_round, procedures}

-- a table to which these words are added, each where it isn't there yet
abbrev pub tabled : List (List ℕ) → List (List ℕ) → List (List ℕ)
tabled names [] = names
tabled names (w ∷ ws) = tabled (with_word names w) ws

-- the names of a node are in the table, it has no text, and its lists have the items that they need
abbrev pub form_kept : List (List ℕ) → Form → Bool
form_kept names f = form_there (has_name names) (has_text []) f && form_filled f

abbrev pub nodes_kept : List (List ℕ) → List Node → Bool
nodes_kept names nodes = list_all (λ o. form_kept names o.form) nodes

-- the node of a form
abbrev pub node_of : Form → Node
node_of f = record { place = beginning; form = f }

-- a form that is this statement, before that node
pub record Says (names : List (List ℕ)) (f : Form) (s : Statement) (next : NodeId) : Type 0 where
  pub block : (bs : List Block) → block_of bs beginning f ≡ Then beginning s (block_in bs next)
  pub follows : children_of f ≡ next ∷ []
  pub kept : form_kept names f ≡ true

-- whether a node's number is below this one, as 1 or 0
abbrev pub below : NodeId → ℕ → ℕ
below id n = cond (nat_lt id.0 n) 1 0

-- The nodes of a block are added, of which the first is the root; each new node is once the root or the follower of a new one
pub record Adds (names : List (List ℕ)) (old new : List Node) (root : NodeId) (b : Block) : Type 0 where
  pub added : List Node
  pub parts : new ≡ old ++ added
  pub there : root.0 < length new
  pub block : block_in (blocks_of new) root ≡ b
  pub kept : nodes_kept names added ≡ true
  pub once : (id : NodeId) → times id (root ∷ followers_in added) + below id (length old) ≡ below id (length new)

-- where procedures begin
abbrev pub begins_of : List Proc → List NodeId
begins_of procs = map (λ p. p.body) procs

-- The procedure of a round, whose nodes are added
pub record MakesProcedure (names : List (List ℕ)) (old new : List Node) (count i : ℕ) (p : Proc) : Type 0 where
  pub name : p.name ≡ named_in names (procedure_word i)
  pub params : p.params ≡ parameters (named_in names) i
  pub sessions : p.sessions ≡ []
  pub adds : Adds names old new p.body (body_of_round (named_in names) count i)

-- The first i procedures of so many are made
pub record Made (names : List (List ℕ)) (count : ℕ) (nodes : List Node) (procs : List Proc) (i : ℕ) : Type 0 where
  pub procedures : map (procedure_of nodes) procs ≡ procedures (named_in names) count i
  pub there : AllByRecursion (λ p. p.body.0 < length nodes) procs
  pub heads : list_all (proc_there (has_name names)) procs ≡ true
  pub filled : list_all proc_filled procs ≡ true
  pub kept : nodes_kept names nodes ≡ true
  pub once : (id : NodeId) → times id (begins_of procs ++ followers_in nodes) ≡ below id (length nodes)
