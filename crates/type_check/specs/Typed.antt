-- What a typed file keeps.
use Rattle.std.specs.Prelude.{ℕ, ◌≡◌, List, []}
use Rattle.chor_base.specs.declared.fault.Fault.{Fault}
use Rattle.chor_tree.specs.declared.file.File.{File}
use Rattle.chor_tree.specs.declared.file.Named.{Named}
use Rattle.chor_tree.specs.Protocols.{Protocol}
use Rattle.chor_tree.specs.Names.{IsNameFault}
use Rattle.global_types.specs.Moves.{IsIn}
use Rattle.global_types.specs.Faults.{faults_of}
use Rattle.global_types.specs.Views.{HasNoViewFault}
use Rattle.typing_rules.specs.TypeFaults.{IsTyped}

-- no fault of its names, where the host functions have these names
abbrev pub HasFineNames : List (List ℕ) → File → Type 0
HasFineNames hosts f = (x : Fault) → IsNameFault f hosts x → ⊥

-- no fault of the views of its roles
abbrev pub HasFineViews : File → Type 0
HasFineViews f = (p : Protocol) → IsIn p f.protocols → (role : Named) → IsIn role p.roles → HasNoViewFault p.states role.name

-- No fault of names, of protocols, of views or of types
pub record IsFine (hosts : List (List ℕ)) (f : File) : Type 0 where
  pub names : HasFineNames hosts f
  pub protocols : faults_of f ≡ []
  pub views : HasFineViews f
  pub types : IsTyped f
