-- Endpoint programs that do what the projection of a file does, and may offer more labels.
use Rattle.chor_tree.specs.declared.file.File.{File}
use Rattle.endpoint_code.specs.declared.endpoints.Endpoints.{Endpoints}
use Rattle.projection.specs.Projects.{Projects}
use Rattle.endpoint_code.specs.AboveUnits.{AreUnitsAbove}

-- They are, unit by unit, above a projection of the file
pub record IsAboveProjection (f : File) (e : Endpoints) : Type 0 where
  pub projection : Endpoints
  pub projects : Projects f projection
  pub above : AreUnitsAbove projection e

-- a projection is
abbrev pub ProjectionIsAbove : Type 0
ProjectionIsAbove = (f : File) (e : Endpoints) → Projects f e → IsAboveProjection f e

-- What is above programs above a projection is above the projection
abbrev pub AboveStaysAbove : Type 0
AboveStaysAbove = (f : File) (e r : Endpoints) → IsAboveProjection f e → AreUnitsAbove e r → IsAboveProjection f r
