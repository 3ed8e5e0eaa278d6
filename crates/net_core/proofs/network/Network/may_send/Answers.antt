use Rattle.std.proofs.Common.{◌≡◌, ◌∙◌, sym, ap, subst, true, false}
use Rattle.std.specs.Prelude.{IsTrue}
use Rattle.endpoint_machine.specs.declared.head.Head.TheVariants as head
use Rattle.endpoint_machine.specs.Heads.{is_out}
use Rattle.net_core.specs.Follows.{MayMake}
use Rattle.net_core.specs.Views.{NetworkView, state_of}
use Rattle.net_core.proofs.Fields.{within, shows_in}
use Rattle.net_core.proofs.Scopes.{bound_at, runner_at}
use Rattle.net_core.proofs.Alone.{head_there}
use Rattle.net_core.proofs.Lone.{may_sending, may_not_send}
use Rattle.net_core.proofs.network.Network.may_send.Goals as goal

pub returns-then-not-has_room : goal.returns-then-not-has_room
returns-then-not-has_room c = λ hosts.
    let i = c.self.inside in
    let p = c.args.pid in
    let n = state_of i.machines.items i.ledger.queues i.ledger.sid in
    let t = shows_in i.machines.items i.ledger.queues c.self.view_is p (head.Out c.args.lane.0 c.args.lane.1 c.args.lane.2) c.requires.sends in
    subst (λ (v : NetworkView). (IsTrue false → MayMake v.endpoints hosts v.capacity v.state p c.args.event.now) × (MayMake v.endpoints hosts v.capacity v.state p c.args.event.now → IsTrue false)) c.self.view_is (
      λ (h : false ≡ true). absurd cc,
      λ may. absurd (may_not_send i.endpoints.now hosts i.ledger.capacity n p c.args.lane.0 c.args.lane.1 c.args.lane.2 c.args.event.now t (sym c.has_room.ensures ∙ c.if-not-has_room.true) may),
    )

pub returns : goal.returns
returns c = λ hosts.
    let i = c.self.inside in
    let p = c.args.pid in
    let e = i.endpoints.now in
    let m = c.index-machine.result.now in
    let next = head.Out c.args.lane.0 c.args.lane.1 c.args.lane.2 in
    let in_it = within i.machines.items i.ledger.queues c.self.view_is p c.requires.there in
    let t = shows_in i.machines.items i.ledger.queues c.self.view_is p next c.requires.sends in
    let shown = head_there e i.machines.items i.ledger.queues i.ledger.sid p m next t in_it c.index-machine.ensures in
    let both = may_sending e hosts i.ledger.capacity (state_of i.machines.items i.ledger.queues i.ledger.sid) p c.args.lane.0 c.args.lane.1 c.args.lane.2 m.machine c.outgoing.result c.args.event.now (sym c.has_room.ensures ∙ c.if-not-has_room.false) (runner_at i.machines.items p m in_it c.index-machine.ensures) shown c.outgoing.ensures in
    subst (λ (v : NetworkView). (IsTrue c.is_sending.result → MayMake v.endpoints hosts v.capacity v.state p c.args.event.now) × (MayMake v.endpoints hosts v.capacity v.state p c.args.event.now → IsTrue c.is_sending.result)) c.self.view_is
    (λ h. both.0 (c.is_sending.ensures.0 h), λ may. c.is_sending.ensures.1 (both.1 may))

pub outgoing-requires : goal.outgoing-requires
outgoing-requires c =
    let i = c.self.inside in
    let p = c.args.pid in
    let e = i.endpoints.now in
    let m = c.index-machine.result.now in
    let next = head.Out c.args.lane.0 c.args.lane.1 c.args.lane.2 in
    let in_it = within i.machines.items i.ledger.queues c.self.view_is p c.requires.there in
    let t = shows_in i.machines.items i.ledger.queues c.self.view_is p next c.requires.sends in
    record {
      faultless = c.self.invariant.faultless;
      bound = bound_at e i.machines.items p m c.self.invariant in_it c.index-machine.ensures;
      sends = ap is_out (head_there e i.machines.items i.ledger.queues i.ledger.sid p m next t in_it c.index-machine.ensures);
    }
