-- What is proved of logs that conform by role, and of what a role has done.
use Rattle.std.specs.Prelude.{ℕ, ◌≡◌, ◌↔◌, List, ◌++◌, map, Some, slice_get}
use Rattle.chor_base.specs.declared.names.NameId.{NameId}
use Rattle.chor_base.specs.declared.event.Event.{Event}
use Rattle.chor_tree.specs.declared.file.File.{File}
use Rattle.chor_tree.specs.declared.protocol.State.{State}
use Rattle.global_types.specs.Paths.{Action}
use Rattle.local_types.specs.declared.local_type.LocalState.{LocalState}
use Rattle.local_types.specs.declared.local_type.LocalState.TheVariants.{End}
use Rattle.local_types.specs.Reading.{LeadsTo, IsTypeOf}
use Rattle.typed_sources.specs.Told.{Act, act_of}
use Rattle.conform.specs.ByRole.{FollowsView, HasDoneAll, ConformsByRole}

-- Each prefix of events that conform conforms
abbrev pub PrefixesConform : Type 0
PrefixesConform = (f : File) (first rest : List Event) → ConformsByRole f (first ++ rest) → ConformsByRole f first

-- what a role has done leads its local type from the first state to state n
pub record IsReadTo (ts : List LocalState) (done : List Act) (n : ℕ) : Type 0 where
  pub actions : List Action
  pub leads : LeadsTo ts 0 actions n
  pub told : map act_of actions ≡ done

-- A role follows its view exactly where what it has done can be read from its local type
abbrev pub ViewsAreRead : Type 0
ViewsAreRead = (ss : List State) (r : NameId) (ts : List LocalState) → IsTypeOf ss r ts → (done : List Act) → FollowsView ss r done ↔ ((n : ℕ) × IsReadTo ts done n)

-- It has done all exactly where that leads to an end
abbrev pub EndsAreRead : Type 0
EndsAreRead =
    (ss : List State) (r : NameId) (ts : List LocalState) → IsTypeOf ss r ts → (done : List Act) → HasDoneAll ss r done ↔ ((n : ℕ) × IsReadTo ts done n × (slice_get ts n ≡ Some End))
