use Rattle.std.proofs.Common.{◌≡◌, ◌+◌, length}
use Rattle.workers.specs.Desks.{IsReady, InOrder, TookFrom}
use Rattle.turn_lock.specs.Seats.{view}
use Rattle.workers.proofs.seats.take_in.Given as goal

abbrev pub invariant-loop-desk : goal.invariant-loop-desk
invariant-loop-desk g l =
    IsReady g.T.Told.origin l.turn l.chief × (l.chief.number ≡ 1) × InOrder g.T.Told.origin l.turn l.desks.items
    × TookFrom (length l.desks.items + 2) (view l.chief.seat).made (view l.chief.seat).taken

abbrev pub decreases-loop-desk : goal.decreases-loop-desk
decreases-loop-desk g l = goal.left-loop-desk g l
