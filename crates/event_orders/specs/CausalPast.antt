-- The causal past of an event of a run.
use Rattle.std.specs.Prelude.{ℕ, ◌<◌, ◌≡◌, ◌⊎◌, ◌↔◌, List, ◌++◌, length, Option, Contains}
use Rattle.std.specs.List.Sorted.{IsStrictlyIncreasing}
use Rattle.chor_base.specs.declared.event.Event.{Event}
use Rattle.chor_base.specs.Meaning.{Hosts}
use Rattle.endpoint_code.specs.declared.endpoints.Endpoints.{Endpoints}
use Rattle.endpoint_code.specs.Network.{NetworkState}
use Rattle.endpoint_code.specs.NetworkRuns.{IsNetworkRun}
use Rattle.endpoint_code.specs.Faults.{HasNoNameFault}
use Rattle.event_orders.specs.Orders.{permuted}
use Rattle.event_orders.specs.HappensBefore.{HappensBefore, IsLinearExtension}

-- The causal past of event j: j and all that happens before it, in ascending order
pub record IsCausalPast (h : List Event) (capacity : Option ℕ) (j : ℕ) (past : List ℕ) : Type 0 where
  pub ascends : IsStrictlyIncreasing past
  pub holds : (i : ℕ) → Contains past i ↔ (i ≡ j) ⊎ HappensBefore h capacity i j

-- the events with these numbers are a run by themselves
abbrev pub IsRunByItself : Endpoints → Hosts → Option ℕ → List Event → List ℕ → Type 0
IsRunByItself e hosts capacity h numbers = (state : NetworkState) × IsNetworkRun e hosts capacity (permuted h numbers) state

-- the events with these numbers come first in some linear extension
abbrev pub BeginsExtension : List Event → Option ℕ → List ℕ → Type 0
BeginsExtension h capacity numbers = (rest : List ℕ) × IsLinearExtension h capacity (numbers ++ rest)

-- The causal past of an event of a run is a run by itself
abbrev pub CausalPastsAreRuns : Type 0
CausalPastsAreRuns =
    (e : Endpoints) (hosts : Hosts) (capacity : Option ℕ) (h : List Event) (last : NetworkState)
    → HasNoNameFault e → IsNetworkRun e hosts capacity h last
    → (j : ℕ) → j < length h → (past : List ℕ) → IsCausalPast h capacity j past → IsRunByItself e hosts capacity h past

-- The causal past of an event of a run comes first in some linear extension
abbrev pub CausalPastsBeginExtensions : Type 0
CausalPastsBeginExtensions =
    (e : Endpoints) (hosts : Hosts) (capacity : Option ℕ) (h : List Event) (last : NetworkState)
    → HasNoNameFault e → IsNetworkRun e hosts capacity h last
    → (j : ℕ) → j < length h → (past : List ℕ) → IsCausalPast h capacity j past → BeginsExtension h capacity past
