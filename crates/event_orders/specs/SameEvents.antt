-- Runs that have, process by process, the same events.
use Rattle.std.specs.Prelude.{ℕ, ◌≡◌, List, Option, filter}
use Rattle.chor_base.specs.declared.event.Event.{Event}
use Rattle.chor_base.specs.Meaning.{Hosts}
use Rattle.endpoint_code.specs.declared.endpoints.Endpoints.{Endpoints}
use Rattle.endpoint_code.specs.Network.{NetworkState}
use Rattle.endpoint_code.specs.NetworkRuns.{IsNetworkRun}
use Rattle.event_orders.specs.EventKinds.{participates}
use Rattle.event_orders.specs.Orders.{permuted}
use Rattle.event_orders.specs.HappensBefore.{IsRearrangement}

-- each process has the same events, with the same numbers of sessions and processes in them
abbrev pub HaveSameEvents : List Event → List Event → Type 0
HaveSameEvents h other = (p : ℕ) → filter (participates p) other ≡ filter (participates p) h

-- the other events are these ones rearranged in this order
pub record IsRearrangedAs (e : Endpoints) (hosts : Hosts) (capacity : Option ℕ) (h other : List Event) (order : List ℕ) : Type 0 where
  pub same : permuted h order ≡ other
  pub kept : IsRearrangement e hosts capacity h order

-- A run of the same endpoints that has, process by process, the same events is a rearrangement
abbrev pub SameEventsAreRearranged : Type 0
SameEventsAreRearranged =
    (e : Endpoints) (hosts : Hosts) (capacity : Option ℕ) (h other : List Event) (last last' : NetworkState)
    → IsNetworkRun e hosts capacity h last → IsNetworkRun e hosts capacity other last'
    → HaveSameEvents h other → (order : List ℕ) × IsRearrangedAs e hosts capacity h other order

-- A rearrangement has, process by process, the same events
abbrev pub RearrangementsHaveSameEvents : Type 0
RearrangementsHaveSameEvents =
    (e : Endpoints) (hosts : Hosts) (capacity : Option ℕ) (h : List Event) (order : List ℕ)
    → IsRearrangement e hosts capacity h order → HaveSameEvents h (permuted h order)
