use Rattle.std.proofs.Common.{sym, subst, refl, ap, ◌∙◌}
use Rattle.chor_base.specs.Events.{Triple}
use Rattle.chor_base.specs.declared.event.Event.TheVariants as event
use Rattle.post_office.specs.Views.{OfficeView, loads_at, CanReceive}
use Rattle.post_office.proofs.Acting.{none_first, of_some}
use Rattle.post_office.proofs.Acted.{acted_kept}
use Rattle.post_office.proofs.office.Office.recv.Goals as goal

pub invariant_of-self : goal.invariant_of-self
invariant_of-self c =
    let t : Triple = (c.args.sid, c.args.from, c.args.to) in
    let x = event.Recv c.args.pid c.args.sid c.args.from c.args.to c.in-Some.load in
    let can = subst (λ (v : OfficeView). CanReceive v c.args.pid t) (sym c.self.view_is) c.requires.stands in
    acted_kept c.self.invariant x c.args.pid refl refl (can c.in-Some.load (sym c.in-Some.ensures)) tt c.args.worker c.append.new.history.items c.take.new.self c.make_busy.new.desks.items _ _
    c.append.ensures.items (of_some c.take.result c.in-Some.load (c.take.ensures.first ∙ sym c.in-Some.ensures) c.take.ensures.rest) c.make_busy.ensures

pub returns-in_default : goal.returns-in_default
returns-in_default c =
    let t : Triple = (c.args.sid, c.args.from, c.args.to) in
    (ap (λ (v : OfficeView). loads_at v.queues t) (sym c.self.view_is) ∙ none_first _ (sym c.in_default.ensures), refl)
