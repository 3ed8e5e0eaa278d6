use Rattle.std.proofs.Common.{sym, subst, refl, ◌≡◌, false}
use Rattle.chor_base.specs.Events.{Triple}
use Rattle.chor_base.specs.declared.event.Event.TheVariants as event
use Rattle.post_office.specs.Views.{OfficeView, loads_at, CanMake, is_full}
use Rattle.post_office.proofs.Acting.{not_full}
use Rattle.post_office.proofs.Acted.{acted_kept}
use Rattle.post_office.proofs.office.Office.send.Goals as goal

pub invariant_of-self : goal.invariant_of-self
invariant_of-self c =
    let x = event.Send c.args.pid c.args.sid c.args.from c.args.to c.args.load in
    let t : Triple = (c.args.sid, c.args.from, c.args.to) in
    let room : is_full c.args.self.now t ≡ false = sym c.if-full.ensures in
    acted_kept c.self.invariant x c.args.pid refl refl (subst (λ (v : OfficeView). CanMake v x) (sym c.self.view_is) c.requires.stands)
    (not_full c.self.inside.ledger.capacity (loads_at c.self.inside.ledger.queues t) (subst (λ (v : OfficeView). is_full v t ≡ false) (sym c.self.view_is) room)) c.args.worker c.append.new.history.items c.put.new.self c.make_busy.new.desks.items _ _
    c.append.ensures.items c.put.ensures.loads c.make_busy.ensures
