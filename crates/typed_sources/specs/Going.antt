-- When a choreography can go on: the node or the condition at its head can happen.
use Rattle.std.specs.Prelude.{List, ◌∷◌, ℕ}
use Rattle.chor_base.specs.declared.event.Event.{Event}
use Rattle.chor_base.specs.NameMap.{Variables}
use Rattle.chor_base.specs.Meaning.{Hosts}
use Rattle.chor_semantics.specs.Choreography.{Choreography, Calls}
use Rattle.chor_semantics.specs.Sources.{Procedure}
use Rattle.chor_semantics.specs.Steps.{Effect, Moves}

-- a step that the choreography can make
pub record CanStep (procs : List Procedure) (hosts : Hosts) (vars : List Variables) (sid : ℕ) (c : Choreography) : Type 0 where
  pub event : Event
  pub effect : Effect
  pub left : Choreography
  pub moves : Moves procs hosts vars sid c event effect left

-- it doesn't begin with a call that passes a process
abbrev pub IsNoCall : Choreography → Type 0
IsNoCall (Calls h k (p ∷ ps) ss) = ⊥
IsNoCall _ = Unit {0}
