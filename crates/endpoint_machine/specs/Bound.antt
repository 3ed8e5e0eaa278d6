-- Processes that know their sessions.
use Rattle.std.specs.Prelude.{◌≡◌, true, List, is_some}
use Rattle.std.specs.FinMap as fin
use Rattle.chor_base.specs.declared.names.NameId.{NameId}
use Rattle.endpoint_code.specs.declared.endpoints.Endpoints.{Endpoints}
use Rattle.endpoint_code.specs.Network.{Machine, Sessions}
use Rattle.endpoint_code.specs.Faults.{IsScoped, is_among}
use Rattle.endpoint_code.specs.InBodies.{IsInBody}

-- these names are bound
abbrev pub AreBound : Sessions → List NameId → Type 0
AreBound m names = (k : NameId) → is_among k names ≡ true → is_some (fin.get m k.0) ≡ true

-- a process stands at a node of a body, whose code uses its session names well
pub record IsBound (e : Endpoints) (m : Machine) : Type 0 where
  pub in_body : IsInBody e m.at
  pub names : List NameId
  pub scoped : IsScoped e m.at names
  pub bound : AreBound m.sessions names
