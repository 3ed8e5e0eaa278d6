-- Endpoint programs whose procedures are, unit by unit, below those of others.
use Rattle.std.specs.Prelude.{◌≡◌, ◌<◌, length, Some}
use Rattle.chor_base.specs.declared.names.NameId.{NameId}
use Rattle.endpoint_code.specs.declared.code.CodeId.{CodeId}
use Rattle.endpoint_code.specs.declared.endpoints.Procedure.{Procedure}
use Rattle.endpoint_code.specs.declared.endpoints.Endpoints.{Endpoints}
use Rattle.endpoint_code.specs.Network.{procedure_of}
use Rattle.endpoint_code.specs.Trees.{code_at}
use Rattle.endpoint_code.specs.Above.{IsAbove}
use Rattle.endpoint_code.specs.Labels.{HasDistinctLabels}

-- the code at q of e is covered by the code at q' of e', which is above it and has no label twice in a branch
pub record IsCovered (e e' : Endpoints) (q q' : CodeId) : Type 0 where
  pub inside : q'.0 < length e'.code.nodes
  pub above : IsAbove (code_at e'.code.nodes q') (code_at e.code.nodes q)
  pub distinct : HasDistinctLabels (code_at e'.code.nodes q')

-- e' has a unit of procedure f for its parameter p, with the sessions of the unit x of e, whose code covers that of x
pub record IsUnitCovered (e e' : Endpoints) (f p : NameId) (x : Procedure) : Type 0 where
  pub unit : Procedure
  pub found : procedure_of e'.procedures f p ≡ Some unit
  pub sessions : unit.sessions ≡ x.sessions
  pub body : IsCovered e e' x.body unit.body

-- each unit of e is covered in e'
abbrev pub AreUnitsCovered : Endpoints → Endpoints → Type 0
AreUnitsCovered e e' = (f p : NameId) (x : Procedure) → procedure_of e.procedures f p ≡ Some x → IsUnitCovered e e' f p x
