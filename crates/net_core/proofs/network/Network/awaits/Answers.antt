use Rattle.std.proofs.Common.{◌∙◌, sym, ap, Bool, cond, Some, None}
use Rattle.chor_base.specs.declared.event.Why.TheVariants.{Wrong}
use Rattle.net_core.specs.Heads.{why_at}
use Rattle.net_core.specs.Views.{NetworkView, state_of}
use Rattle.net_core.proofs.Fields.{within, shows_in}
use Rattle.net_core.proofs.Scopes.{waits_empty, bound_at, runner_at}
use Rattle.net_core.proofs.Alone.{waits_first}
use Rattle.net_core.proofs.Counts.{no_first, first_rest}
use Rattle.net_core.proofs.network.Network.awaits.Goals as goal

pub returns-in_default : goal.returns-in_default
returns-in_default c =
    let i = c.self.inside in
    let p = c.args.pid in
    sym (waits_empty i.endpoints.now i.ledger.capacity (state_of i.machines.items i.ledger.queues i.ledger.sid) p c.args.sid c.args.from c.args.to (shows_in i.machines.items i.ledger.queues c.self.view_is p _ c.requires.takes) (no_first _ (sym c.in_default.ensures)))
    ∙ ap (λ (v : NetworkView). why_at v.endpoints v.capacity v.state p) c.self.view_is

pub fits-requires-clause-bound : goal.fits-requires-clause-bound
fits-requires-clause-bound c =
    let i = c.self.inside in
    bound_at i.endpoints.now i.machines.items c.args.pid c.index-machine.result.now c.self.invariant (within i.machines.items i.ledger.queues c.self.view_is c.args.pid c.requires.there) c.index-machine.ensures

pub returns-then-fits : goal.returns-then-fits
returns-then-fits c =
    let i = c.self.inside in
    let p = c.args.pid in
    sym (waits_first i.endpoints.now i.ledger.capacity (state_of i.machines.items i.ledger.queues i.ledger.sid) p c.args.sid c.args.from c.args.to c.in-Some.load _ (shows_in i.machines.items i.ledger.queues c.self.view_is p _ c.requires.takes) (first_rest _ _ (sym c.in-Some.ensures))
    c.index-machine.result.now.machine (runner_at i.machines.items p c.index-machine.result.now (within i.machines.items i.ledger.queues c.self.view_is p c.requires.there) c.index-machine.ensures)
    ∙ ap (λ (b : Bool). cond b None (Some (Wrong c.args.sid c.args.from c.args.to))) (sym c.fits.ensures.fits ∙ c.if-fits.true))
    ∙ ap (λ (v : NetworkView). why_at v.endpoints v.capacity v.state p) c.self.view_is

pub returns-else-fits : goal.returns-else-fits
returns-else-fits c =
    let i = c.self.inside in
    let p = c.args.pid in
    sym (waits_first i.endpoints.now i.ledger.capacity (state_of i.machines.items i.ledger.queues i.ledger.sid) p c.args.sid c.args.from c.args.to c.in-Some.load _ (shows_in i.machines.items i.ledger.queues c.self.view_is p _ c.requires.takes) (first_rest _ _ (sym c.in-Some.ensures))
    c.index-machine.result.now.machine (runner_at i.machines.items p c.index-machine.result.now (within i.machines.items i.ledger.queues c.self.view_is p c.requires.there) c.index-machine.ensures)
    ∙ ap (λ (b : Bool). cond b None (Some (Wrong c.args.sid c.args.from c.args.to))) (sym c.fits.ensures.fits ∙ c.if-fits.false))
    ∙ ap (λ (v : NetworkView). why_at v.endpoints v.capacity v.state p) c.self.view_is
