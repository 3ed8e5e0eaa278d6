use Rattle.std.proofs.Common.{sym, ap, ◌∙◌, subst}
use Rattle.std.specs.Prelude.{All}
use Rattle.std.proofs.lemmas.List.Elements.{All-push}
use Rattle.turn_lock.specs.declared.parts.Seat.{Seat}
use Rattle.turn_lock.specs.Seats.{view}
use Rattle.workers.specs.Desks.{IsAtWork}
use Rattle.workers.proofs.team.Team.new.Goals as goal

pub returns-clause-seats : goal.returns-clause-seats
returns-clause-seats g c =
    let all = c.in_ok-seat_all.ensures in
    let made = c.in_ok-chief.ensures in
    record {
      others = c.seat_all.new.desks.items;
      chief = c.in_ok-chief.chief;
      desks = c.push_reserved.ensures.items;
      order = all.desks.0;
      ready = made.ready.0;
      first = made.ready.1;
      made = ap (λ (s : Seat _ _). (view s).made) made.seat ∙ (all.made.0 ∙ sym all.made.1);
      none = ap (λ (s : Seat _ _). (view s).taken) made.seat ∙ all.fresh.0;
    }

pub returns-clause-at_work : goal.returns-clause-at_work
returns-clause-at_work g c =
    let at_work = IsAtWork g.T.Told.origin g.T.Shared.about c.in_ok-turn.turn in
    subst (All at_work) (sym c.push_reserved.ensures.items) (All-push at_work c.seat_all.new.desks.items c.in_ok-chief.chief c.in_ok-seat_all.ensures.desks.1 c.in_ok-chief.ensures.at_work)
