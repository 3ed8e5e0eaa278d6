-- The host functions that codes ask, wherever their nodes lie in a table (this project's own).
use Rattle.std.specs.Prelude.{◌≡◌, Bool, true}
use Rattle.chor_base.specs.declared.names.NameId.{NameId}
use Rattle.endpoint_code.specs.Trees.{Action, Asks, CodeTree, Does, Offers, Tests, Calls, Ends, Arms, NoArms, Arm}

-- a host function that an action asks is known
abbrev pub asks_so : (NameId → Bool) → Action → Type 0
asks_so known (Asks x f v u) = known f ≡ true
asks_so known _ = Unit {0}

-- the host functions that a code asks, on whichever path, are known
abbrev mutual
  pub AsksTree : (NameId → Bool) → CodeTree → Type 0
  AsksTree known (Does a rest) = asks_so known a × AsksTree known rest
  AsksTree known (Offers k a arms) = AsksArms known arms
  AsksTree known (Tests t first second) = AsksTree known first × AsksTree known second
  AsksTree known (Calls f p ss) = Unit {0}
  AsksTree known Ends = Unit {0}

  -- those that the codes of a branch's arms ask are
  pub AsksArms : (NameId → Bool) → Arms → Type 0
  AsksArms known NoArms = Unit {0}
  AsksArms known (Arm l c rest) = AsksTree known c × AsksArms known rest
