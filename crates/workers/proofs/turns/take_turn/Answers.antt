use Rattle.std.proofs.Common.{◌++◌, ◌∙◌, length, drop, refl, ap}
use Rattle.turn_lock.specs.declared.views.View.{View}
use Rattle.workers.proofs.Following.{catches_up, at_work_after, unless}
use Rattle.workers.proofs.turns.take_turn.Goals as goal

pub turn-next-requires-clause-behind : goal.turn-next-requires-clause-behind
turn-next-requires-clause-behind g c = catches_up g.T.Told.origin g.T.Told.history g.T.Shared.about c.args.turn.now c.args.desk.now c.requires.ready c.requires.at_work c.take-value.result c.take-value.ensures.value

pub returns-then-ne-clause-at_work : goal.returns-then-ne-clause-at_work
returns-then-ne-clause-at_work g c =
    let past = g.T.Told.history c.turn-next.new.self in
    unless c.turn-next.result
    (λ worker follows. at_work_after g.T.Told.origin g.T.Told.history g.T.Shared.about c.args.turn.now c.args.desk.now c.requires.ready c.requires.at_work c.take-value.result c.take-value.ensures.value past _ c.turn-next.ensures.history refl worker follows
    (ap (λ (v : View _). v.seen) c.give.ensures.view) (ap (λ (v : View _). v.own) c.give.ensures.view ∙ ap (λ (v : View _). v.own ++ drop (length v.seen) past) c.take-value.ensures.view.1))
    c.turn-next.ensures.worker c.turn-next.ensures.follows

pub returns-else-ne-clause-at_work : goal.returns-else-ne-clause-at_work
returns-else-ne-clause-at_work g c =
    let past = g.T.Told.history c.turn-next.new.self in
    unless c.turn-next.result
    (λ worker follows. at_work_after g.T.Told.origin g.T.Told.history g.T.Shared.about c.args.turn.now c.args.desk.now c.requires.ready c.requires.at_work c.take-value.result c.take-value.ensures.value past _ c.turn-next.ensures.history refl worker follows
    (ap (λ (v : View _). v.seen) c.give.ensures.view) (ap (λ (v : View _). v.own) c.give.ensures.view ∙ ap (λ (v : View _). v.own ++ drop (length v.seen) past) c.take-value.ensures.view.1))
    c.turn-next.ensures.worker c.turn-next.ensures.follows
