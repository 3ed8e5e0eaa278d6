-- What the happens-before relation of a run says of its rearrangements.
use Rattle.std.specs.Prelude.{ℕ, ◌<◌, ◌≢◌, ◌↔◌, List, length, Option}
use Rattle.chor_base.specs.declared.event.Event.{Event}
use Rattle.chor_base.specs.Meaning.{Hosts}
use Rattle.endpoint_code.specs.declared.endpoints.Endpoints.{Endpoints}
use Rattle.endpoint_code.specs.Network.{NetworkState}
use Rattle.endpoint_code.specs.NetworkRuns.{IsNetworkRun}
use Rattle.endpoint_code.specs.SameState.{IsSameState}
use Rattle.endpoint_code.specs.Faults.{HasNoNameFault}
use Rattle.event_orders.specs.Orders.{IsBefore, permuted}
use Rattle.event_orders.specs.HappensBefore.{HappensBefore, IsLinearExtension, IsRearrangement}

-- the events in this order are a run, and the state after it is the same as this one
pub record IsRunToSameState (e : Endpoints) (hosts : Hosts) (capacity : Option ℕ) (h : List Event) (last : NetworkState) (order : List ℕ) : Type 0 where
  pub state : NetworkState
  pub run : IsNetworkRun e hosts capacity (permuted h order) state
  pub same : IsSameState last state

-- Each linear extension of a run's happens-before relation is a run with the same state after it
abbrev pub LinearExtensionsAreRuns : Type 0
LinearExtensionsAreRuns =
    (e : Endpoints) (hosts : Hosts) (capacity : Option ℕ) (h : List Event) (last : NetworkState)
    → HasNoNameFault e → IsNetworkRun e hosts capacity h last
    → (order : List ℕ) → IsLinearExtension h capacity order → IsRunToSameState e hosts capacity h last order

-- An event happens before another exactly if it comes before it in every rearrangement
abbrev pub RearrangementsShareHappensBefore : Type 0
RearrangementsShareHappensBefore =
    (e : Endpoints) (hosts : Hosts) (capacity : Option ℕ) (h : List Event) (last : NetworkState)
    → HasNoNameFault e → IsNetworkRun e hosts capacity h last
    → (i j : ℕ) → i < length h → j < length h
    → HappensBefore h capacity i j ↔ ((order : List ℕ) → IsRearrangement e hosts capacity h order → IsBefore order i j)

-- Where an event doesn't happen before another one, some linear extension has them the other way round
abbrev pub UnorderedAreReversed : Type 0
UnorderedAreReversed =
    (e : Endpoints) (hosts : Hosts) (capacity : Option ℕ) (h : List Event) (last : NetworkState)
    → HasNoNameFault e → IsNetworkRun e hosts capacity h last
    → (i j : ℕ) → i < length h → j < length h → i ≢ j → (HappensBefore h capacity i j → ⊥)
    → (order : List ℕ) × IsLinearExtension h capacity order × IsBefore order j i
