-- The starts of a channel, as nodes of a file.
use Rattle.std.specs.Prelude.{ℕ, ◌≡◌, ◌==◌, Bool, true, false, List, [], ◌∷◌, ◌++◌, map, All, Some, slice_get, Contains}
use Rattle.std.specs.List.{filter}
use Rattle.chor_base.specs.declared.names.NameId.{NameId}
use Rattle.chor_base.specs.declared.fault.Fault.{Fault}
use Rattle.chor_tree.specs.declared.file.File.{File}
use Rattle.chor_tree.specs.declared.file.Proc.{Proc}
use Rattle.chor_tree.specs.declared.tree.Form.{Form}
use Rattle.chor_tree.specs.declared.tree.Form.TheVariants.{Start}
use Rattle.chor_tree.specs.declared.tree.Node.{Node}
use Rattle.chor_tree.specs.declared.tree.NodeId.{NodeId}
use Rattle.chor_tree.specs.Children.{children_of}
use Rattle.chor_tree.specs.Names.{Scope, scope_of_main, scope_of_procedure, scope_after, IsNameFault}
use Rattle.chor_semantics.specs.Choreography.{Starts, Choreography, Then, Ends}
use Rattle.projection.specs.Projects.{Started, starts_in, starts_of, body_at}
use Rattle.service_codes.specs.declared.starts.StartNode.{StartNode}

-- no name of a file is at fault, where the host functions have some names
pub record HasNamesResolved (f : File) : Type 0 where
  pub hosts : List (List ℕ)
  pub names : (x : Fault) → IsNameFault f hosts x → ⊥

-- ---- nodes that stand in a body

-- the node stands in main or in the body of a procedure, where these names are in scope
pub data Stands (f : File) : Scope → NodeId → Type 0 where
  main_begins : {s : Scope} {id : NodeId} → s ≡ scope_of_main f → id ≡ f.body → Stands f s id
  procedure_begins : {s : Scope} {id : NodeId} {p : Proc} → Contains f.procs p → s ≡ scope_of_procedure p → id ≡ p.body → Stands f s id
  follows : {s t : Scope} {id before : NodeId} {n : Node}
      → Stands f t before → slice_get f.tree.nodes before.0 ≡ Some n → Contains (children_of n.form) id → s ≡ scope_after t n.form
      → Stands f s id

-- in some scope
pub record IsStanding (f : File) (id : NodeId) : Type 0 where
  pub scope : Scope
  pub stands : Stands f scope id

-- ---- starts

-- whether it is a start of channel a
abbrev pub starts_channel : NameId → Form → Bool
starts_channel a (Start c k active serve next) = c.name.0 == a.0
starts_channel a _ = false

-- the node is a start of channel a, and stands in a body
pub record IsStartOf (f : File) (a : NameId) (id : NodeId) : Type 0 where
  pub scope : Scope
  pub stands : Stands f scope id
  pub node : Node
  pub is : slice_get f.tree.nodes id.0 ≡ Some node
  pub starts : starts_channel a node.form ≡ true

-- the start with which a choreography begins; no other begins with one
abbrev pub first_start : Choreography → Started
first_start (Then (Starts c d k active serve) rest) = record { session = k; serve = serve; rest = rest }
first_start _ = record { session = 0; serve = []; rest = Ends }

-- the start at a node
abbrev pub start_in : File → NodeId → Started
start_in f id = first_start (body_at f id)

-- the node, if it is a start
abbrev pub start_at : NodeId → Form → List StartNode
start_at id (Start c k active serve next) = record { channel = c.name; node = id } ∷ []
start_at id _ = []

-- the nodes that start channel a
abbrev pub nodes_of : NameId → List StartNode → List NodeId
nodes_of a xs = map (λ x. x.node) (filter (λ x. x.channel.0 == a.0) xs)

-- nodes at these starts of channel a come at the end of a list
pub record AddsStarts (f : File) (a : NameId) (starts : List Started) (old new : List NodeId) : Type 0 where
  pub more : List NodeId
  pub is : new ≡ old ++ more
  pub same : map (start_in f) more ≡ starts
  pub each : All (IsStartOf f a) more

-- the nodes are all starts of channel a, in the order of the source
pub record AreStartsOf (f : File) (a : NameId) (ids : List NodeId) : Type 0 where
  pub same : map (start_in f) ids ≡ starts_of f a
  pub each : All (IsStartOf f a) ids

-- the starts from a node on come at the end of a list, in the order of the source
pub record AddsAllStarts (f : File) (id : NodeId) (old new : List StartNode) : Type 0 where
  pub of : (a : NameId) → AddsStarts f a (starts_in a (body_at f id)) (nodes_of a old) (nodes_of a new)

-- those of each channel are all its starts, in the order of the source
pub record AreAllStarts (f : File) (starts : List StartNode) : Type 0 where
  pub of : (a : NameId) → AreStartsOf f a (nodes_of a starts)
