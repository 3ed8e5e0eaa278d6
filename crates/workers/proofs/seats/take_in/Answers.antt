use Rattle.std.proofs.Common.{rules, ◌≡◌, ℕ, ◌+◌, length, sym, ◌∙◌, subst, arith}
use Rattle.turn_lock.specs.declared.views.View.{View}
use Rattle.workers.specs.Desks.{TookFrom}
use Rattle.workers.proofs.Takes.{last_desk, others_desk, took_more}
use Rattle.workers.proofs.seats.take_in.Goals as goal

pub loop-desk-preserved : goal.loop-desk-preserved
loop-desk-preserved g c =
    let i = c.loop-desk.invariant in let p = c.in-Some.ensures.items in let d = c.in-Some.desk in
    let last = last_desk g.T.Told.origin c.args.turn.now _ _ d p i.2 in
    let len : length c.loop-desk.desks.items ≡ length c.pop.new.self.items + 1 = search rules in (
      search rules,
      search rules,
      others_desk g.T.Told.origin c.args.turn.now _ _ d p i.2,
      subst (λ (v : View _). TookFrom (length c.pop.new.self.items + 2) v.made v.taken) (sym c.join.ensures.view)
          (took_more (length c.pop.new.self.items + 2) _ d.seat.inner.me.0.number _ d.seat.inner.me.0.own (last.0.2 ∙ last.1) (subst (λ (k : ℕ). TookFrom k c.loop-desk.chief.seat.inner.me.0.made c.loop-desk.chief.seat.inner.me.0.taken) (omega (arith, len)) i.3)),
    )
