use Rattle.std.proofs.Common.{◌≡◌, ◌∙◌, sym, subst, true, false}
use Rattle.std.specs.Prelude.{IsTrue}
use Rattle.endpoint_machine.specs.declared.head.Head.TheVariants as head
use Rattle.net_core.specs.Follows.{MayMake}
use Rattle.net_core.specs.Views.{NetworkView, state_of}
use Rattle.net_core.proofs.Fields.{within, shows_in}
use Rattle.net_core.proofs.Scopes.{bound_at, runner_at}
use Rattle.net_core.proofs.Alone.{head_there}
use Rattle.net_core.proofs.Counts.{no_first, first_rest}
use Rattle.net_core.proofs.Lone.{may_not_take, may_taking, taker}
use Rattle.net_core.proofs.network.Network.may_receive.Goals as goal

pub returns-in_default : goal.returns-in_default
returns-in_default c = λ hosts.
    let i = c.self.inside in
    let p = c.args.pid in
    let e = i.endpoints.now in
    let next = head.Take c.args.lane.0 c.args.lane.1 c.args.lane.2 in
    let t = shows_in i.machines.items i.ledger.queues c.self.view_is p next c.requires.takes in
    subst (λ (v : NetworkView). (IsTrue false → MayMake v.endpoints hosts v.capacity v.state p c.args.event.now) × (MayMake v.endpoints hosts v.capacity v.state p c.args.event.now → IsTrue false)) c.self.view_is (
      λ (h : false ≡ true). absurd cc,
      λ may. absurd (may_not_take e hosts i.ledger.capacity (state_of i.machines.items i.ledger.queues i.ledger.sid) p c.args.lane.0 c.args.lane.1 c.args.lane.2 t.stands.machine c.args.event.now t.stands.there (taker e (state_of i.machines.items i.ledger.queues i.ledger.sid) p next t) (no_first _ (sym c.in_default.ensures)) may),
    )

pub fits-requires-clause-bound : goal.fits-requires-clause-bound
fits-requires-clause-bound c =
    let i = c.self.inside in
    bound_at i.endpoints.now i.machines.items c.args.pid c.index-machine.result.now c.self.invariant (within i.machines.items i.ledger.queues c.self.view_is c.args.pid c.requires.there) c.index-machine.ensures

pub returns-then-fits : goal.returns-then-fits
returns-then-fits c = λ hosts.
    let i = c.self.inside in
    let p = c.args.pid in
    let e = i.endpoints.now in
    let m = c.index-machine.result.now in
    let next = head.Take c.args.lane.0 c.args.lane.1 c.args.lane.2 in
    let in_it = within i.machines.items i.ledger.queues c.self.view_is p c.requires.there in
    let t = shows_in i.machines.items i.ledger.queues c.self.view_is p next c.requires.takes in
    let shown = head_there e i.machines.items i.ledger.queues i.ledger.sid p m next t in_it c.index-machine.ensures in
    let both = may_taking e hosts i.ledger.capacity (state_of i.machines.items i.ledger.queues i.ledger.sid) p c.args.lane.0 c.args.lane.1 c.args.lane.2 m.machine c.in-Some.load _ c.args.event.now (runner_at i.machines.items p m in_it c.index-machine.ensures) shown (first_rest _ _ (sym c.in-Some.ensures)) in
    subst (λ (v : NetworkView). (IsTrue c.is_receiving.result → MayMake v.endpoints hosts v.capacity v.state p c.args.event.now) × (MayMake v.endpoints hosts v.capacity v.state p c.args.event.now → IsTrue c.is_receiving.result)) c.self.view_is
    (λ h. both.0 (sym c.fits.ensures.fits ∙ c.if-fits.true) (c.is_receiving.ensures.0 h), λ may. c.is_receiving.ensures.1 (both.1 may).1)

pub returns-else-fits : goal.returns-else-fits
returns-else-fits c = λ hosts.
    let i = c.self.inside in
    let p = c.args.pid in
    let e = i.endpoints.now in
    let m = c.index-machine.result.now in
    let next = head.Take c.args.lane.0 c.args.lane.1 c.args.lane.2 in
    let in_it = within i.machines.items i.ledger.queues c.self.view_is p c.requires.there in
    let t = shows_in i.machines.items i.ledger.queues c.self.view_is p next c.requires.takes in
    let shown = head_there e i.machines.items i.ledger.queues i.ledger.sid p m next t in_it c.index-machine.ensures in
    let both = may_taking e hosts i.ledger.capacity (state_of i.machines.items i.ledger.queues i.ledger.sid) p c.args.lane.0 c.args.lane.1 c.args.lane.2 m.machine c.in-Some.load _ c.args.event.now (runner_at i.machines.items p m in_it c.index-machine.ensures) shown (first_rest _ _ (sym c.in-Some.ensures)) in
    subst (λ (v : NetworkView). (IsTrue c.fits.result → MayMake v.endpoints hosts v.capacity v.state p c.args.event.now) × (MayMake v.endpoints hosts v.capacity v.state p c.args.event.now → IsTrue c.fits.result)) c.self.view_is
    (λ h. let yes : c.fits.result ≡ true = h in let no : c.fits.result ≡ false = c.if-fits.false in let clash : true ≡ false = sym yes ∙ no in absurd cc, λ may. c.fits.ensures.fits ∙ (both.1 may).0)
