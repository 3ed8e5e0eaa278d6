use Rattle.std.proofs.Common.{◌≡◌, ◌+◌, ◌∙◌, ◌∷◌, [], length, sym, ap, subst, arith, length-append}
use Rattle.std.specs.Prelude.{All}
use Rattle.std.proofs.lemmas.List.Elements.{All-push}
use Rattle.turn_lock.specs.declared.views.View.{View}
use Rattle.workers.specs.Desks.{InOrder, IsAtWork}
use Rattle.workers.proofs.Takes.{order_more}
use Rattle.workers.proofs.seats.seat_all.Goals as goal

pub loop-made-preserved : goal.loop-made-preserved
loop-made-preserved g c =
    let i = c.loop-made.invariant in
    let o = g.T.Told.origin in
    let t = c.args.turn.now in
    let ds = c.loop-made.desks.items in
    let d = c.in_ok-desk.desk in
    let left = c.in-Some.ensures.made.1 in
    let seat = c.split.ensures.seat in
    let items = c.push_reserved.ensures.items in
    let long : length c.push_reserved.new.self.items ≡ length ds + 1 = ap length items ∙ length-append ds (d ∷ []) in
    let below = c.loop-made-test.true in
    let count = i.made.1 in
    let number : d.number ≡ length ds + 2 = (let n = c.in_ok-desk.ensures.ready.1 in omega (arith, n, count)) in
    record {
      seat = (seat.0, (seat.1, ap (λ (v : View _). v.waits) left ∙ i.seat.1.1, ap (λ (v : View _). v.has) left ∙ i.seat.1.2), ap (λ (v : View _). v.number) left ∙ i.seat.2);
      fresh = (ap (λ (v : View _). v.taken) left ∙ i.fresh.0, ap (λ (v : View _). v.seen) left ∙ i.fresh.1, ap (λ (v : View _). v.own) left ∙ i.fresh.2);
      made = (ap (λ (v : View _). v.made) left ∙ ap (λ n. n + 1) i.made.0, omega (arith, long, count), omega (arith, below));
      room = c.push_reserved.ensures.capacity ∙ i.room;
      order = subst (InOrder o t) (sym items) (order_more o t ds d i.order c.in_ok-desk.ensures.ready.0 number);
      at_work = subst (All (IsAtWork o g.T.Shared.about t)) (sym items) (All-push (IsAtWork o g.T.Shared.about t) ds d i.at_work c.in_ok-desk.ensures.at_work);
    }
