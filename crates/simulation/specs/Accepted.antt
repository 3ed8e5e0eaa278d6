-- What an accepted file keeps.
use Rattle.std.specs.Prelude.{ℕ, List}
use Rattle.chor_base.specs.declared.fault.Fault.{Fault}
use Rattle.chor_tree.specs.declared.file.File.{File}
use Rattle.endpoint_code.specs.declared.endpoints.Endpoints.{Endpoints}
use Rattle.endpoint_code.specs.Faults.{IsFaultlessWith}
use Rattle.type_check.specs.declared.typed.Typed.{Typed}
use Rattle.linear_check.specs.Class.{IsLinearityFault}
use Rattle.source_check.specs.Classes.{HasNoMergeFault}
use Rattle.accepted_files.specs.AboveProjection.{IsAboveProjection}

-- A typed file has no fault of linearity and none of merging. These endpoint programs are its projection or, unit by unit, above
-- it, and have no fault, where the host functions have these names
pub record IsAccepted (words : List (List ℕ)) (f : File) (e : Endpoints) : Type 0 where
  pub linear : (x : Fault) → IsLinearityFault f x → ⊥
  pub merges : HasNoMergeFault f
  pub above : IsAboveProjection f e
  pub faultless : IsFaultlessWith words e

-- the typed file, and its endpoint programs
pub record AcceptedView : Type 0 where
  pub typed : Typed
  pub endpoints : Endpoints
