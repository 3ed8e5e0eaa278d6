use Rattle.std.proofs.Common.{◌+◌, ◌∙◌, List, sym, ap, subst}
use Rattle.chor_base.specs.declared.event.Entry.{Entry}
use Rattle.turn_lock.specs.Seats.{turn_origin}
use Rattle.turn_lock.specs.Turns.{by}
use Rattle.crew.specs.declared.share.Share.{Share}
use Rattle.workers.specs.Turns.{Follows}
use Rattle.workers.proofs.Following.{begins}
use Rattle.workers.proofs.seats.desk_at.Goals as goal

pub returns-clause-at_work : goal.returns-clause-at_work
returns-clause-at_work g c =
    let o = g.T.Shared.about (turn_origin g.T.Told.origin c.args.turn.now) in
    let made = c.in_ok-crew.ensures in
    record {
      worker = ap (λ (h : Share). h.worker + 1) made.share ∙ sym c.entry.ensures;
      follows = subst (λ (l : List Entry). Follows o l c.in_ok-crew.crew) (sym c.requires.fresh.0) (begins c.args.endpoints.now c.args.share.workers o c.in_ok-crew.crew c.requires.begins (ap (λ (h : Share). h.workers) made.share) made.seen made.ahead);
      own = ap (by c.entry.result) c.requires.fresh.0 ∙ sym c.requires.fresh.1;
    }
