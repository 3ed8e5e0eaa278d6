use Rattle.std.proofs.Common.{sym, subst}
use Rattle.post_office.specs.Lanes.{loads_in}
use Rattle.post_office.specs.Views.{OfficeView, CanMake}
use Rattle.post_office.proofs.Acting.{local_alone, local_place, local_queues}
use Rattle.post_office.proofs.Acted.{acted_kept}
use Rattle.post_office.proofs.office.Office.note.Goals as goal

pub invariant_of-self : goal.invariant_of-self
invariant_of-self c =
    let x = c.args.event in
    acted_kept c.self.invariant x c.actor-pid.result (local_alone x c.requires.local) c.actor-pid.ensures (subst (λ (v : OfficeView). CanMake v x) (sym c.self.view_is) c.requires.stands)
    (local_place x c.self.inside.ledger.capacity (loads_in c.self.inside.ledger.queues.lanes) c.requires.local) c.args.worker c.append.new.history.items c.self.inside.ledger.queues c.make_busy.new.desks.items _ _
    c.append.ensures.items (local_queues x (loads_in c.self.inside.ledger.queues.lanes) c.requires.local) c.make_busy.ensures
