-- The causes of an event of a run.
use Rattle.std.specs.Prelude.{ℕ, ◌+◌, ◌<◌, ◌≡◌, ◌↔◌, List, Option, Some}
use Rattle.chor_base.specs.declared.event.Event.{Event}
use Rattle.chor_base.specs.Events.{Triple}
use Rattle.event_orders.specs.EventKinds.{Sends, Receives, Starts}
use Rattle.event_orders.specs.HappensBefore.{IsEventOf, IsNth, HappensBefore}

-- Event i is a cause of event j: the last event before j of a process that participates in j; for a start the previous
-- start; for a receipt the send of its load; and for a send under a capacity the receipt that makes room for it
pub data IsCause (h : List Event) (capacity : Option ℕ) : ℕ → ℕ → Type 0 where
  last_of_process : {i j : ℕ} (p : ℕ) → i < j → IsEventOf h p i → IsEventOf h p j → ((k : ℕ) → i < k → k < j → IsEventOf h p k → ⊥)
      → IsCause h capacity i j
  previous_start : {i j : ℕ} (n : ℕ) → IsNth h Starts i n → IsNth h Starts j (n + 1) → IsCause h capacity i j
  its_send : {i j : ℕ} (t : Triple) (n : ℕ) → IsNth h (Sends t) i n → IsNth h (Receives t) j n → IsCause h capacity i j
  its_room : {i j : ℕ} (t : Triple) (n c : ℕ) → capacity ≡ Some c → IsNth h (Receives t) i n → IsNth h (Sends t) j (n + c)
      → IsCause h capacity i j

-- event i is a cause of event j, or of a cause of it, and so on
pub data IsTransitiveCause (h : List Event) (capacity : Option ℕ) : ℕ → ℕ → Type 0 where
  cause : {i j : ℕ} → IsCause h capacity i j → IsTransitiveCause h capacity i j
  by_way_of : {i j : ℕ} (k : ℕ) → IsTransitiveCause h capacity i k → IsTransitiveCause h capacity k j → IsTransitiveCause h capacity i j

-- Causes generate happens-before: an event happens before another exactly if it is a transitive cause of it
abbrev pub CausesGenerateHappensBefore : Type 0
CausesGenerateHappensBefore =
    (h : List Event) (capacity : Option ℕ) (i j : ℕ) → HappensBefore h capacity i j ↔ IsTransitiveCause h capacity i j
