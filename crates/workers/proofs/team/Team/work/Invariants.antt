use Rattle.std.proofs.Common.{◌≡◌}
use Rattle.turn_lock.specs.Seats.{turn_origin}
use Rattle.workers.specs.Desks.{AreSeated, AreToGoOn}
use Rattle.workers.proofs.team.Team.work.Given as goal

abbrev pub invariant-loop : goal.invariant-loop
invariant-loop g l = record {
  seats : AreSeated g.T.Told.origin l.self.turn l.self.desks.items;
  go_on : AreToGoOn g.T.Told.origin g.T.Shared.about l.self.turn l.self.desks.items;
  origin : turn_origin g.T.Told.origin l.self.turn ≡ turn_origin g.T.Told.origin l.initial.self.turn;
}
