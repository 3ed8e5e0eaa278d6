-- What a scan of the first events of a list has.
use Rattle.std.specs.Prelude.{ℕ, zero, suc, ◌≡◌, ◌==◌, ◌&&◌, Bool, false, List, take, Option, None, Some, slice_get, if◌then◌else◌}
use Rattle.chor_base.specs.declared.event.Event.{Event}
use Rattle.chor_base.specs.Events.{Triple}
use Rattle.event_orders.specs.EventKinds.{EventKind, Sends, Receives, Starts, has_kind, count, participates}
use Rattle.causal_order.specs.declared.index.EventIndex.{EventIndex}
use Rattle.causal_order.specs.declared.scan.Scan.{Scan}
use Rattle.causal_order.specs.Index.{count_on, place_on}
use Rattle.causal_order.specs.Scan.{last_event_of}

-- the greatest number below n that passes the test
abbrev pub latest : (ℕ → Bool) → ℕ → Option ℕ
latest f zero = None
latest f (suc n) = if f n then Some n else latest f n

-- an event is there and passes the test
abbrev pub event_passes : (Event → Bool) → Option Event → Bool
event_passes f None = false
event_passes f (Some x) = f x

-- event i is of a kind, and so are n events before it
abbrev pub is_nth : List Event → EventKind → ℕ → ℕ → Bool
is_nth h k n i = event_passes (has_kind k) (slice_get h i) && (count k (take i h) == n)

-- the index has the events of these kinds among the first n
pub record IsIndexOf (h : List Event) (n : ℕ) (kind : Triple → EventKind) (index : EventIndex) : Type 0 where
  pub counts : (t : Triple) → count_on index t ≡ count (kind t) (take n h)
  pub places : (t : Triple) (m : ℕ) → place_on index t m ≡ latest (is_nth h (kind t) m) n

-- the scan has the first n events
pub record HasScanned (h : List Event) (n : ℕ) (s : Scan) : Type 0 where
  pub last : (p : ℕ) → last_event_of s p ≡ latest (λ i. event_passes (participates p) (slice_get h i)) n
  pub start : s.start ≡ latest (λ i. event_passes (has_kind Starts) (slice_get h i)) n
  pub sends : IsIndexOf h n (λ t. Sends t) s.sends
  pub receipts : IsIndexOf h n (λ t. Receives t) s.receipts
