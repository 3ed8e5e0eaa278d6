-- What a file and its endpoints must keep so that the network does what the choreography says.
use Rattle.std.specs.Prelude.{ℕ, ◌≡◌, ◌≤◌, true, false, List, [], length, map, Option, Some, None, slice_get}
use Rattle.std.specs.FinMap as fin
use Rattle.chor_base.specs.declared.names.NameId.{NameId}
use Rattle.chor_base.specs.declared.event.Event.{Event}
use Rattle.chor_base.specs.declared.event.Event.TheVariants as event
use Rattle.chor_base.specs.Meaning.{Hosts}
use Rattle.chor_tree.specs.declared.file.File.{File}
use Rattle.chor_semantics.specs.Choreography.{Ref, Live, Named, Choreography}
use Rattle.chor_semantics.specs.Sources.{Procedure, procedures_of, first_configuration, tree_in, trees_of}
use Rattle.chor_semantics.specs.Steps.{procedure_named, body_of}
use Rattle.endpoint_code.specs.declared.endpoints.Channel.{Channel}
use Rattle.endpoint_code.specs.declared.endpoints.Procedure.{Procedure as ProcedureCode}
use Rattle.endpoint_code.specs.declared.endpoints.Process.{Process}
use Rattle.endpoint_code.specs.declared.endpoints.Endpoints.{Endpoints}
use Rattle.endpoint_code.specs.Network.{NetworkState, queue_of, has_room, channel_of, procedure_of, node_at}
use Rattle.endpoint_code.specs.Faults.{begins_with_call}
use Rattle.well_formed.specs.Follows.{IsEqualUpToPruning}
use Rattle.well_formed.specs.WellFormed.{Scope, AreDistinctRefs, AreDistinctRoles, CallFits, IsWellFormed, AllFit, names_in_scope, declared_scope}
use Rattle.well_formed.specs.SourceTrees.{IsSource, AllSources}
use Rattle.well_formed.specs.Guarded.{AllGuarded}
use Rattle.well_formed.specs.Linear.{ParameterSets, IsLinear, everyone, AllLinear}
use Rattle.well_formed.specs.Holders.{ListedHolders, ListsFit, HoldersFit, AllHoldersFit}
use Rattle.well_formed.specs.Asked.{IsAnswered}
use Rattle.correspondence.specs.Services.{ServicesFollow}
use Rattle.correspondence.specs.Corresponds.{session_map}

-- what procedures keep, and the endpoints with them
pub record IsSound (e : Endpoints) (procs : List Procedure) (sets : NameId → ParameterSets) (lists : ListedHolders) : Type 0 where
  -- their bodies are trees of sources
  pub sources : AllSources procs
  -- they are well formed
  pub fit : AllFit e.channels procs
  -- each parameter is guarded
  pub guarded : AllGuarded procs
  -- each channel with two or more active roles is linear in them
  pub linear : (a : NameId) (k : Channel) → channel_of e.channels a ≡ Some k → 2 ≤ length k.active → AllLinear a (sets a) procs
  -- no channel has an active role twice
  pub roles : (a : NameId) (k : Channel) → channel_of e.channels a ≡ Some k → AreDistinctRoles k.active
  -- the listed holders are parameters
  pub lists_fit : ListsFit lists procs
  -- whoever uses a role in a body is its holder
  pub holders_fit : AllHoldersFit lists procs
  -- in the body of each call the code of each service follows what stands after each start
  pub services : (sc : Scope) (f : NameId) (d : ℕ) (ps ss : List Ref) (c : Choreography) → body_of (procedure_named procs f) d ps ss ≡ Some c → CallFits procs sc f d ps ss → ServicesFollow e procs c

-- what main keeps, and the endpoints with it
pub record Begins (e : Endpoints) (f : File) (sets : NameId → ParameterSets) (lists : ListedHolders) : Type 0 where
  -- its body is a tree of a source
  pub source : IsSource (tree_in (trees_of f.tree.nodes) f.body)
  -- it is well formed in the scope of its processes
  pub fit : IsWellFormed e.channels (procedures_of f) (declared_scope (map (λ p. p.name) f.processes) []) (tree_in (trees_of f.tree.nodes) f.body)
  -- no process is declared twice
  pub apart : AreDistinctRefs (names_in_scope (map (λ p. p.name) f.processes))
  -- each channel with two or more active roles is linear in it
  pub linear : (a : NameId) (k : Channel) → channel_of e.channels a ≡ Some k → 2 ≤ length k.active → IsLinear a (sets a) everyone (tree_in (trees_of f.tree.nodes) f.body)
  -- the endpoints have as many processes
  pub count : length e.processes ≡ length f.processes
  -- the code of each of them follows main
  pub follows : (p : ℕ) (q : Process) → slice_get e.processes p ≡ Some q → IsEqualUpToPruning e (procedures_of f) (Live p) (first_configuration f).tree q.body (session_map fin.empty)
  -- the code of each service follows what stands after each start
  pub services : ServicesFollow e (procedures_of f) (first_configuration f).tree
  -- the listed holders are parameters
  pub lists_fit : ListsFit lists (procedures_of f)
  -- whoever uses a role is its holder, where nobody holds one at first
  pub holders_fit : (y : ℕ) (r : NameId) → HoldersFit lists (Named y 0) r (tree_in (trees_of f.tree.nodes) f.body) None

-- no procedure of the endpoints begins with a call
abbrev pub NoCallFirst : Endpoints → Type 0
NoCallFirst e = (f p : NameId) (q : ProcedureCode) → procedure_of e.procedures f p ≡ Some q → begins_with_call (node_at e q.body) ≡ false

-- all three: the endpoints do what the file says
pub record Realizes (e : Endpoints) (f : File) (sets : NameId → ParameterSets) (lists : ListedHolders) : Type 0 where
  pub sound : IsSound e (procedures_of f) sets lists
  pub begins : Begins e f sets lists
  pub no_call_first : NoCallFirst e

-- the capacity leaves room for the event: for a send, the queue can take one load more
abbrev pub HasRoomFor : Option ℕ → NetworkState → Event → Type 0
HasRoomFor cap n (event.Send p s a b l) = has_room cap (queue_of n (s, a, b)) ≡ true
HasRoomFor cap n _ = Unit {0}

-- nobody waits in vain for room, for a start or for an answer
pub record IsUnhindered (e : Endpoints) (f : File) (hosts : Hosts) (cap : Option ℕ) : Type 0 where
  -- an empty queue can take a load
  pub room : has_room cap [] ≡ true
  -- each channel has an active role
  pub active : (a : NameId) (k : Channel) → channel_of e.channels a ≡ Some k → 1 ≤ length k.active
  -- each host function that the file asks has an answer
  pub answered : IsAnswered f hosts
