use Rattle.std.proofs.Common.{◌≡◌, ◌∙◌, ℕ, sym, subst, true, false}
use Rattle.std.specs.Prelude.{IsTrue}
use Rattle.chor_host.specs.Functions.{hosts_in, names_of}
use Rattle.chor_host.specs.Tables.{functions_of}
use Rattle.endpoint_code.specs.Faults.{AsksKnown, is_listed}
use Rattle.endpoint_code.specs.Network.{Machine}
use Rattle.endpoint_machine.specs.declared.head.Head.TheVariants as head
use Rattle.endpoint_machine.specs.Places.{StandsAt}
use Rattle.endpoint_machine.specs.Steps.{CanMake}
use Rattle.session_starts.specs.Machines.{number_of}
use Rattle.net_core.specs.Follows.{MayMake}
use Rattle.net_core.specs.Views.{NetworkView, state_of}
use Rattle.net_core.proofs.Fields.{within, shows_in, stands_there}
use Rattle.net_core.proofs.Scopes.{bound_at, runner_at}
use Rattle.net_core.proofs.Rooms.{mapped_at}
use Rattle.net_core.proofs.Runs.{steps_no_end}
use Rattle.net_core.proofs.Alone.{head_there}
use Rattle.net_core.proofs.Makers.{may_alone, may_step}
use Rattle.net_core.proofs.Lone.{may_acting}
use Rattle.std.proofs.lemmas.Bool.{true≢false}
use Rattle.net_core.proofs.network.Network.may_make.Goals as goal

pub returns-in-Out : goal.returns-in-Out
returns-in-Out g c = c.may_send.ensures (hosts_in c.args.self.now.endpoints.names (functions_of c.args.hosts.now))

pub returns-in-Take : goal.returns-in-Take
returns-in-Take g c = c.may_receive.ensures (hosts_in c.args.self.now.endpoints.names (functions_of c.args.hosts.now))

pub may-requires : goal.may-requires
may-requires g c =
    let i = c.self.inside in
    let p = c.args.pid in
    let e = i.endpoints.now in
    let m = c.index-machine.result.now in
    let in_it = within i.machines.items i.ledger.queues c.self.view_is p c.requires.there in
    let t = shows_in i.machines.items i.ledger.queues c.self.view_is p head.Local c.in-Local.ensures in
    record {
      faultless = record {
        faultless = c.self.invariant.faultless;
        hosts = subst (λ (v : NetworkView). AsksKnown (is_listed (names_of (functions_of c.args.hosts.now)) v.endpoints) v.endpoints) (sym c.self.view_is) c.requires.hosts;
      };
      bound = bound_at e i.machines.items p m c.self.invariant in_it c.index-machine.ensures;
      alone = head_there e i.machines.items i.ledger.queues i.ledger.sid p m head.Local t in_it c.index-machine.ensures;
    }

pub returns-in-Local : goal.returns-in-Local
returns-in-Local g c =
    let i = c.self.inside in
    let p = c.args.pid in
    let e = i.endpoints.now in
    let m = c.index-machine.result.now in
    let x = c.args.event.now in
    let hosts = hosts_in e.names (functions_of c.args.hosts.now) in
    let in_it = within i.machines.items i.ledger.queues c.self.view_is p c.requires.there in
    let t = shows_in i.machines.items i.ledger.queues c.self.view_is p head.Local c.in-Local.ensures in
    let shown = head_there e i.machines.items i.ledger.queues i.ledger.sid p m head.Local t in_it c.index-machine.ensures in
    let same = stands_there e i.machines.items i.ledger.queues i.ledger.sid p m t.node t.stands in_it c.index-machine.ensures in
    let stands = subst (λ (k : Machine). StandsAt e k t.node t.stands.sessions) same t.stands.at_node in
    let number : m.number ≡ p = c.self.invariant.counted p m.number (mapped_at number_of i.machines.items p m in_it c.index-machine.ensures) in
    let both = may_acting e hosts i.ledger.capacity (state_of i.machines.items i.ledger.queues i.ledger.sid) p m.machine t.node t.stands.sessions x (runner_at i.machines.items p m in_it c.index-machine.ensures) stands shown in
    subst (λ (v : NetworkView). (IsTrue c.may.result → MayMake v.endpoints (hosts_in v.endpoints.names (functions_of c.args.hosts.now)) v.capacity v.state p x) × (MayMake v.endpoints (hosts_in v.endpoints.names (functions_of c.args.hosts.now)) v.capacity v.state p x → IsTrue c.may.result)) c.self.view_is
    (λ h. both.0 (subst (λ (k : ℕ). CanMake e hosts k m.machine x) number (c.may.ensures.0 h)), λ may. c.may.ensures.1 (subst (λ (k : ℕ). CanMake e hosts k m.machine x) (sym number) (both.1 may)))

pub returns-in-Join : goal.returns-in-Join
returns-in-Join g c =
    let v = c.args.self.now in
    let hosts = hosts_in v.endpoints.names (functions_of c.args.hosts.now) in
    (λ (h : false ≡ true). absurd (true≢false (sym h)), λ may. sym (may_alone v.endpoints hosts v.capacity v.state c.args.pid c.args.event.now may) ∙ c.in-Join.ensures.joining)

pub returns-in-Ended : goal.returns-in-Ended
returns-in-Ended g c =
    let v = c.args.self.now in
    let hosts = hosts_in v.endpoints.names (functions_of c.args.hosts.now) in
    (λ (h : false ≡ true). absurd (true≢false (sym h)), λ may. absurd (steps_no_end v.endpoints v.capacity v.state c.args.pid (may_step v.endpoints hosts v.capacity v.state c.args.pid c.args.event.now may) c.in-Ended.ensures.ended))

pub head-requires : goal.head-requires
head-requires g c = c.requires.there

pub may_send-requires-clause-there : goal.may_send-requires-clause-there
may_send-requires-clause-there g c = c.requires.there

pub may_receive-requires-clause-there : goal.may_receive-requires-clause-there
may_receive-requires-clause-there g c = c.requires.there

pub may_send-requires-clause-sends : goal.may_send-requires-clause-sends
may_send-requires-clause-sends g c = c.in-Out.ensures

pub may_receive-requires-clause-takes : goal.may_receive-requires-clause-takes
may_receive-requires-clause-takes g c = c.in-Take.ensures
