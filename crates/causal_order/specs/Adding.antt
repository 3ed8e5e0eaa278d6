-- The next event is added to a scan.
use Rattle.std.specs.Prelude.{ℕ, ◌≡◌, Some, if◌then◌else◌}
use Rattle.chor_base.specs.declared.event.Event.{Event}
use Rattle.event_orders.specs.EventKinds.{Sends, Receives, Starts, has_kind, participates}
use Rattle.causal_order.specs.declared.scan.Scan.{Scan}
use Rattle.causal_order.specs.Index.{HasOneMore}
use Rattle.causal_order.specs.Scan.{HasLastAt}

-- the scan has event x at this place too
pub record HasAdded (old : Scan) (x : Event) (place : ℕ) (new : Scan) : Type 0 where
  pub last : HasLastAt old (λ p. participates p x) place new
  pub start : new.start ≡ (if has_kind Starts x then Some place else old.start)
  pub sends : HasOneMore old.sends (λ t. has_kind (Sends t) x) place new.sends
  pub receipts : HasOneMore old.receipts (λ t. has_kind (Receives t) x) place new.receipts
