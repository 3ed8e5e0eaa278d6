-- What a walk through a body knows of names: that they have no fault from a node on.
use Rattle.std.specs.Prelude.{ℕ, ◌≡◌, ◌<◌, false, List, length}
use Rattle.chor_base.specs.declared.names.NameId.{NameId}
use Rattle.chor_base.specs.declared.fault.Fault.{Fault}
use Rattle.chor_tree.specs.declared.file.File.{File}
use Rattle.chor_tree.specs.declared.tree.NodeId.{NodeId}
use Rattle.chor_tree.specs.Names.{Scope, is_among, IsBodyFault, IsNameFault}
use Rattle.delegation.specs.declared.held.Held.{Held}
use Rattle.delegation.specs.Owners.{Lacks}
use Rattle.typing_rules.specs.Environment.{Environment}

-- nobody holds a role of a session that isn't in scope
abbrev pub HoldInScope : Scope → List Held → Type 0
HoldInScope scope hs = (k : NameId) → is_among scope.sessions k ≡ false → Lacks k hs

-- A node is there, and from it on no name is at fault, where for some scope only sessions in scope have holders
pub record IsResolved (f : File) (e : Environment) (id : NodeId) : Type 0 where
  pub hosts : List (List ℕ)
  pub scope : Scope
  pub held : HoldInScope scope e.owners
  pub names : (x : Fault) → IsBodyFault f hosts x scope id → ⊥
  pub is_there : id.0 < length f.tree.nodes

-- No name of a file is at fault, for the names of some host functions
pub record HasNamesResolved (f : File) : Type 0 where
  pub hosts : List (List ℕ)
  pub names : (x : Fault) → IsNameFault f hosts x → ⊥
