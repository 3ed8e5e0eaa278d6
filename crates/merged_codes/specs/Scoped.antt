-- That code uses its session names well, said of its tree, wherever its nodes lie in a table.
use Rattle.std.specs.Prelude.{◌≡◌, true, false, List, ◌∷◌, length, Some}
use Rattle.chor_base.specs.declared.names.NameId.{NameId}
use Rattle.endpoint_code.specs.declared.endpoints.Procedure.{Procedure}
use Rattle.endpoint_code.specs.declared.endpoints.Endpoints.{Endpoints}
use Rattle.endpoint_code.specs.Faults.{is_among, AreDistinct, without, IsActive, all_among}
use Rattle.endpoint_code.specs.Labels.{HasDistinctLabels}
use Rattle.endpoint_code.specs.Network.{procedure_of}
use Rattle.endpoint_code.specs.Trees.{Action, Joins, Sends, Receives, Selects, Gives, Gains, Sets, Shows, Asks, CodeTree, Does, Offers, Tests, Calls, Ends, Arms, NoArms, Arm}

-- the sessions that are bound after an action
abbrev pub bound_after : Action → List NameId → List NameId
bound_after (Joins c r k) bs = k ∷ bs
bound_after (Gives k b h) bs = without h bs
bound_after (Gains k a h) bs = h ∷ bs
bound_after _ bs = bs

-- the sessions that an action names are bound, and the one that it binds is not
abbrev pub IsScopedAction : Endpoints → Action → List NameId → Type 0
IsScopedAction e (Joins c r k) bs = IsActive e c r × (is_among k bs ≡ false)
IsScopedAction e (Sends k b x) bs = is_among k bs ≡ true
IsScopedAction e (Receives k a x) bs = is_among k bs ≡ true
IsScopedAction e (Selects k b l) bs = is_among k bs ≡ true
IsScopedAction e (Gives k b h) bs = (is_among k bs ≡ true) × (is_among h bs ≡ true)
IsScopedAction e (Gains k a h) bs = (is_among k bs ≡ true) × (is_among h bs ≡ false)
IsScopedAction e (Sets x v) bs = Unit {0}
IsScopedAction e (Shows v) bs = Unit {0}
IsScopedAction e (Asks x f v w) bs = Unit {0}

-- a call passes bound sessions, none twice, as many as the procedure's unit has
pub record IsScopedCall (e : Endpoints) (f p : NameId) (ss bs : List NameId) : Type 0 where
  pub unit : Procedure
  pub found : procedure_of e.procedures f p ≡ Some unit
  pub count : length ss ≡ length unit.sessions
  pub bound : all_among ss bs ≡ true
  pub apart : AreDistinct ss

-- the code uses its session names well where these are bound; labels that stand twice in a branch are another matter
abbrev mutual
  pub IsScopedTree : Endpoints → CodeTree → List NameId → Type 0
  IsScopedTree e (Does a rest) bs = IsScopedAction e a bs × IsScopedTree e rest (bound_after a bs)
  IsScopedTree e (Offers k a arms) bs = (is_among k bs ≡ true) × AreScopedArms e arms bs
  IsScopedTree e (Tests t first second) bs = IsScopedTree e first bs × IsScopedTree e second bs
  IsScopedTree e (Calls f p ss) bs = IsScopedCall e f p ss bs
  IsScopedTree e Ends bs = Unit {0}

  pub AreScopedArms : Endpoints → Arms → List NameId → Type 0
  AreScopedArms e NoArms bs = Unit {0}
  AreScopedArms e (Arm l c rest) bs = IsScopedTree e c bs × AreScopedArms e rest bs

-- such a code, in whose branches no label stands twice
pub record IsScopedCode (e : Endpoints) (bs : List NameId) (c : CodeTree) : Type 0 where
  pub distinct : HasDistinctLabels c
  pub scoped : IsScopedTree e c bs
