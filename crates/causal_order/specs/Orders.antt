-- The causes of all events of a run, and what they say of its rearrangements.
use Rattle.std.specs.Prelude.{ℕ, ◌≡◌, ◌<◌, ◌↔◌, ◌⊎◌, Bool, true, false, List, length, Option, Some, slice_get, slice_index_or, All, Contains}
use Rattle.std.specs.List.Sorted.{IsStrictlyIncreasing}
use Rattle.chor_base.specs.declared.event.Event.{Event}
use Rattle.chor_base.specs.Meaning.{Hosts}
use Rattle.endpoint_code.specs.declared.endpoints.Endpoints.{Endpoints}
use Rattle.endpoint_code.specs.Network.{NetworkState}
use Rattle.endpoint_code.specs.NetworkRuns.{IsNetworkRun}
use Rattle.endpoint_code.specs.Faults.{HasNoNameFault}
use Rattle.event_orders.specs.Orders.{IsPermutationBelow, IsBefore}
use Rattle.event_orders.specs.HappensBefore.{HappensBefore, IsRearrangement}
use Rattle.event_orders.specs.Causes.{IsCause}
use Rattle.event_orders.specs.CausalPast.{IsCausalPast, IsRunByItself}
use Rattle.event_orders.specs.Laws.{IsRunToSameState}

-- these are the causes of event j, in ascending order, each once
pub record AreCausesOf (h : List Event) (capacity : Option ℕ) (j : ℕ) (causes : List ℕ) : Type 0 where
  pub ascends : IsStrictlyIncreasing causes
  pub holds : (i : ℕ) → Contains causes i ↔ IsCause h capacity i j

-- these are the causes of each event
pub record AreCauses (h : List Event) (capacity : Option ℕ) (causes : List (List ℕ)) : Type 0 where
  pub whole : length causes ≡ length h
  pub each : (j : ℕ) (list : List ℕ) → slice_get causes j ≡ Some list → AreCausesOf h capacity j list

-- each cause has a place before that of the event
abbrev pub AreEarlier : List (List ℕ) → Type 0
AreEarlier causes = (j : ℕ) (list : List ℕ) → slice_get causes j ≡ Some list → All (λ i. i < j) list

-- event i is an ancestor of event j: a cause of it, or a cause of an ancestor
pub data IsAncestor (causes : List (List ℕ)) : ℕ → ℕ → Type 0 where
  direct : {i j : ℕ} (list : List ℕ) → slice_get causes j ≡ Some list → Contains list i → IsAncestor causes i j
  by_way : {i j : ℕ} (k : ℕ) → IsAncestor causes i k → IsAncestor causes k j → IsAncestor causes i j

-- event i is event j or an ancestor of it
abbrev pub IsInPast : List (List ℕ) → ℕ → ℕ → Type 0
IsInPast causes j i = (i ≡ j) ⊎ IsAncestor causes i j

-- event j and its ancestors are marked, and no others
abbrev pub AreMarked : List (List ℕ) → ℕ → List Bool → Type 0
AreMarked causes j marks = (i : ℕ) → i < length causes → (slice_index_or marks i false ≡ true) ↔ IsInPast causes j i

-- the events are a run of some endpoints
abbrev pub IsSomeRun : Option ℕ → List Event → Type 0
IsSomeRun capacity h = (e : Endpoints) × (hosts : Hosts) × (last : NetworkState) × IsNetworkRun e hosts capacity h last

-- in this order each event comes after its causes
abbrev pub RespectsCauses : List (List ℕ) → List ℕ → Type 0
RespectsCauses causes order = (j : ℕ) (list : List ℕ) (i : ℕ) → slice_get causes j ≡ Some list → Contains list i → IsBefore order i j

-- each permutation of the events of a run that respects these causes is a run with the same state after it
abbrev pub RespectingOrdersAreRuns : Option ℕ → List Event → List (List ℕ) → Type 0
RespectingOrdersAreRuns capacity h causes =
    (e : Endpoints) (hosts : Hosts) (last : NetworkState) → HasNoNameFault e → IsNetworkRun e hosts capacity h last
    → (order : List ℕ) → IsPermutationBelow (length h) order → RespectsCauses causes order
    → IsRunToSameState e hosts capacity h last order

-- whether event i happens before event j in any events with these causes
abbrev pub IsWhetherBefore : List (List ℕ) → ℕ → ℕ → Bool → Type 0
IsWhetherBefore causes i j answer =
    (h : List Event) (capacity : Option ℕ) → AreCauses h capacity causes → (answer ≡ true) ↔ HappensBefore h capacity i j

-- whether event i comes before event j in every rearrangement of a run with these causes
abbrev pub IsWhetherShared : List (List ℕ) → ℕ → ℕ → Bool → Type 0
IsWhetherShared causes i j answer =
    (e : Endpoints) (hosts : Hosts) (capacity : Option ℕ) (h : List Event) (last : NetworkState)
    → HasNoNameFault e → IsNetworkRun e hosts capacity h last → AreCauses h capacity causes
    → (answer ≡ true) ↔ ((order : List ℕ) → IsRearrangement e hosts capacity h order → IsBefore order i j)

-- the causal past of event j in any events with these causes
abbrev pub IsPast : List (List ℕ) → ℕ → List ℕ → Type 0
IsPast causes j past = (h : List Event) (capacity : Option ℕ) → AreCauses h capacity causes → IsCausalPast h capacity j past

-- the causal past of event j of a run with these causes is a run by itself
abbrev pub PastIsRun : List (List ℕ) → ℕ → List ℕ → Type 0
PastIsRun causes j past =
    (e : Endpoints) (hosts : Hosts) (capacity : Option ℕ) (h : List Event) (last : NetworkState)
    → HasNoNameFault e → IsNetworkRun e hosts capacity h last → AreCauses h capacity causes
    → IsRunByItself e hosts capacity h past
