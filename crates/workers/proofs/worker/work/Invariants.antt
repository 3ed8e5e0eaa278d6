use Rattle.workers.specs.Desks.{IsReady, IsAtWork, Stays}
use Rattle.workers.proofs.worker.work.Given as goal

abbrev pub invariant-loop-turns : goal.invariant-loop-turns
invariant-loop-turns g l = record {
  ready : IsReady g.T.Told.origin l.turn l.desk;
  at_work : IsAtWork g.T.Told.origin g.T.Shared.about l.turn l.desk;
  stays : Stays l.initial.desk l.desk;
}
