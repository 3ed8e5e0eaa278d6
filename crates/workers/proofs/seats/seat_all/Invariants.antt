use Rattle.std.proofs.Common.{◌-◌, ◌≡◌, ◌≤◌, ◌+◌, [], length}
use Rattle.std.specs.Prelude.{vec_capacity}
use Rattle.turn_lock.specs.Seats.{view, IsSeatOf, IsIdle}
use Rattle.workers.specs.Desks.{InOrder, AreAtWork}
use Rattle.workers.proofs.seats.seat_all.Given as goal

abbrev pub invariant-loop-made : goal.invariant-loop-made
invariant-loop-made g l = record {
  seat : IsSeatOf g.T.Told.origin l.turn l.chief × IsIdle l.chief × ((view l.chief).number ≡ 1);
  fresh : ((view l.chief).taken ≡ []) × ((view l.chief).seen ≡ []) × ((view l.chief).own ≡ []);
  made : ((view l.chief).made ≡ l.made) × (length l.desks.items + 1 ≡ l.made) × (l.made ≤ l.workers);
  room : vec_capacity l.desks ≡ vec_capacity l.initial.desks;
  order : InOrder g.T.Told.origin l.turn l.desks.items;
  at_work : AreAtWork g.T.Told.origin g.T.Shared.about l.turn l.desks.items;
}

abbrev pub decreases-loop-made : goal.decreases-loop-made
decreases-loop-made g l = l.workers - l.made
