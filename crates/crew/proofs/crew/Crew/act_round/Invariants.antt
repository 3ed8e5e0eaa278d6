use Rattle.std.proofs.Common.{◌≡◌, ◌≤◌, [], length}
use Rattle.crew.specs.Ahead.{IsUpToDate}
use Rattle.crew.specs.Turns.{Adds}
use Rattle.crew.proofs.crew.Crew.act_round.Given as goal

abbrev pub invariant-loop : goal.invariant-loop
invariant-loop l = record {
  share : l.self.share ≡ l.fn.self.share;
  noted : l.self.notes ≡ [];
  adds : Adds l.fn.self.share l.fn.office l.office;
  within : length l.office.history ≤ l.steps;
  after : IsUpToDate l.office l.self;
}
