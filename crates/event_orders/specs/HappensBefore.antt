-- The happens-before relation of a run, and its rearrangements.
use Rattle.std.specs.Prelude.{ℕ, ◌+◌, ◌<◌, ◌≡◌, true, List, take, length, Option, Some, slice_get}
use Rattle.chor_base.specs.declared.event.Event.{Event}
use Rattle.chor_base.specs.Events.{Triple}
use Rattle.chor_base.specs.Meaning.{Hosts}
use Rattle.endpoint_code.specs.declared.endpoints.Endpoints.{Endpoints}
use Rattle.endpoint_code.specs.Network.{NetworkState}
use Rattle.endpoint_code.specs.NetworkRuns.{IsNetworkRun}
use Rattle.event_orders.specs.EventKinds.{EventKind, Sends, Receives, Starts, has_kind, count, participates}
use Rattle.event_orders.specs.Orders.{IsPermutationBelow, IsBefore, permuted}

-- event i is an event of process p
pub record IsEventOf (h : List Event) (p i : ℕ) : Type 0 where
  pub event : Event
  pub there : slice_get h i ≡ Some event
  pub part : participates p event ≡ true

-- event i is of this kind, and so are n events before it
pub record IsNth (h : List Event) (kind : EventKind) (i n : ℕ) : Type 0 where
  pub event : Event
  pub there : slice_get h i ≡ Some event
  pub of_kind : has_kind kind event ≡ true
  pub number : count kind (take i h) ≡ n

-- The pairs that generate happens-before: two events of one process, two starts, a send and the receipt of its load, and
-- under a capacity c the n-th receipt on a triple and the send n + c on it, which needs the room
pub data IsDirectlyBefore (h : List Event) (capacity : Option ℕ) : ℕ → ℕ → Type 0 where
  program_order : {i j : ℕ} (p : ℕ) → i < j → IsEventOf h p i → IsEventOf h p j → IsDirectlyBefore h capacity i j
  start_order : {i j : ℕ} (n m : ℕ) → i < j → IsNth h Starts i n → IsNth h Starts j m → IsDirectlyBefore h capacity i j
  message_order : {i j : ℕ} (t : Triple) (n : ℕ) → IsNth h (Sends t) i n → IsNth h (Receives t) j n → IsDirectlyBefore h capacity i j
  capacity_order : {i j : ℕ} (t : Triple) (n c : ℕ) → capacity ≡ Some c → IsNth h (Receives t) i n → IsNth h (Sends t) j (n + c)
      → IsDirectlyBefore h capacity i j

-- Event i happens before event j: the least transitive relation that has these pairs
pub data HappensBefore (h : List Event) (capacity : Option ℕ) : ℕ → ℕ → Type 0 where
  directly : {i j : ℕ} → IsDirectlyBefore h capacity i j → HappensBefore h capacity i j
  through : {i j : ℕ} (k : ℕ) → HappensBefore h capacity i k → HappensBefore h capacity k j → HappensBefore h capacity i j

-- A linear extension of happens-before: a permutation of the events in which each comes after all that happens before it
pub record IsLinearExtension (h : List Event) (capacity : Option ℕ) (order : List ℕ) : Type 0 where
  pub whole : IsPermutationBelow (length h) order
  pub extends : (i j : ℕ) → HappensBefore h capacity i j → IsBefore order i j

-- A rearrangement: a permutation of the events that is a run and keeps each process's events in order
pub record IsRearrangement (e : Endpoints) (hosts : Hosts) (capacity : Option ℕ) (h : List Event) (order : List ℕ) : Type 0 where
  pub whole : IsPermutationBelow (length h) order
  pub kept : (p i j : ℕ) → i < j → IsEventOf h p i → IsEventOf h p j → IsBefore order i j
  pub last : NetworkState
  pub run : IsNetworkRun e hosts capacity (permuted h order) last
