-- Fetching an events file after which a run goes on.
use Rattle.std.proofs.Common.{inl, ℕ, List, [], ◌∷◌, refl, sym, ap, subst, arith}
use Rattle.chor_io.specs.Outside.{Risen, ShelfState}
use Rattle.chor_cmd.specs.declared.ending.Stop.{Stop}
use Rattle.chor_cmd.specs.declared.ending.Stop.TheVariants.{Refused, ReadFault, TooLarge, Memory}
use Rattle.chor_cmd.specs.Outputs.{too_large_line}
use Rattle.chor_cmd.specs.Rows.{Row, Reads, IsShortLog, events_limit}
use Rattle.chor_cmd.specs.Stops.{IsUnread, IsUnreadLog, IsStop}

module _ (before after : ShelfState) (name : List ℕ) where
  -- one that isn't read, or is longer than an events file
  pub unread_log : (stop : Stop) → IsUnread events_limit (λ bytes r. ⊥) before after name stop → IsUnreadLog before after name stop
  unread_log (Refused r) h = absurd h.2
  unread_log (ReadFault w) h = h
  unread_log (TooLarge w) (is, (bytes, told, long)) = (is, (bytes, told, λ short. let few = short.0 in absurd (omega (arith, few, long))))
  unread_log Memory h = tt

  -- the command stops then
  pub stops_at_log : (next : List ℕ → Row) (stop : Stop) → IsUnreadLog before after name stop → IsStop (Reads IsShortLog next) (name ∷ []) before after stop
  stops_at_log next (Refused r) h = absurd h
  stops_at_log next (ReadFault w) (is, risen) = ((0, omega arith, sym is), subst (λ (n : List ℕ). Risen (before.faults n) (after.faults n)) (sym is) risen)
  stops_at_log next (TooLarge w) (is, (bytes, told, long)) = (bytes, told, inl (long, (refl, ap too_large_line is)))
  stops_at_log next Memory h = tt
