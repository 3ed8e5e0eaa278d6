use Rattle.std.proofs.Common.{◌∙◌, List, ◌++◌, ◌∷◌, [], take, length, ap, subst, sym, refl}
use Rattle.std.proofs.lemmas.List.{take_more}
use Rattle.chor_base.specs.declared.event.Entry.{Entry}
use Rattle.chor_host.specs.Functions.{hosts_in}
use Rattle.chor_host.specs.Tables.{functions_of}
use Rattle.endpoint_code.specs.declared.endpoints.Endpoints.{Endpoints}
use Rattle.endpoint_code.specs.Network.{first_state}
use Rattle.endpoint_code.specs.NetworkRuns.{NetworkLeads}
use Rattle.office_runs.proofs.Ahead.{begun, fits_one, ahead_more}
use Rattle.post_office.specs.Views.{events_of}
use Rattle.office_runs.specs.Told.{AreAlike}
use Rattle.office_runs.proofs.Board.{begins_busy}
use Rattle.office_runs.proofs.Refused.{no_run}
use Rattle.office_runs.proofs.told.office_of.Goals as goal

pub loop-event-init : goal.loop-event-init
loop-event-init g c =
    let e = c.args.endpoints.now in
    let table = hosts_in e.names (functions_of c.args.hosts.now) in
    let v = c.in_ok-network.network in
    let w = c.in_ok-office.office in
    let n = c.in_ok-network.ensures in
    let o = c.in_ok-office.ensures in (
      begun e c.args.capacity c.args.events.now v n.endpoints n.capacity n.state c.if-events-ge-EVENTS.false (c.if-not-are_few.ensures.0 refl),
      record {
        endpoints = o.endpoints ∙ sym n.endpoints;
        hosts = o.hosts;
        capacity = o.capacity ∙ sym n.capacity;
        after = subst (λ (h : List Entry). NetworkLeads w.endpoints w.hosts w.capacity (first_state w.endpoints) (events_of h) v.state) (sym o.history) (ap first_state o.endpoints ∙ sym n.state);
      },
      ap events_of o.history,
      begins_busy w (length e.processes) o.desks,
    )

pub tell-requires-clause-fits : goal.tell-requires-clause-fits
tell-requires-clause-fits g c =
    fits_one c.args.events.now c.loop-event.event-index c.loop-event.network c.loop-event-test.true c.loop-event.invariant.0

pub loop-event-preserved : goal.loop-event-preserved
loop-event-preserved g c =
    let xs = c.args.events.now in
    let i = c.loop-event.event-index in
    let v = c.loop-event.network in
    let u = c.loop-event.invariant.0 in
    let x = c.event-item.result in
    let told = c.if-not-told.false in
    let alike = subst (λ (a : Endpoints). AreAlike (hosts_in a.names (functions_of c.args.hosts.now)) c.tell.new.network c.tell.new.office) u.endpoints (c.in_ok-told.ensures.alike told) in (
      ahead_more (hosts_in v.endpoints.names (functions_of c.args.hosts.now)) xs i x v c.tell.new.network c.loop-event-test.true u (c.in_ok-told.ensures.followed told) (c.in_ok-told.ensures.grown told),
      alike,
      c.in_ok-told.ensures.events told ∙ ap (λ l. l ++ x ∷ []) c.loop-event.invariant.2 ∙ ap (λ y. take i xs ++ y ∷ []) c.event-item.is ∙ sym (take_more xs i x c.loop-event-test.true),
      c.in_ok-told.ensures.busy told,
    )

pub returns-then-not-told-clause-none : goal.returns-then-not-told-clause-none
returns-then-not-told-clause-none g c same =
    let v = c.loop-event.network in
    let w = c.loop-event.office in
    let alike = c.loop-event.invariant.1 in
    let x = c.event-item.result in
    no_run w c.args.endpoints.now (hosts_in c.args.endpoints.now.names (functions_of c.args.hosts.now)) c.args.capacity c.args.events.now c.loop-event.event-index x
    (alike.endpoints ∙ c.loop-event.invariant.0.endpoints) alike.hosts (alike.capacity ∙ c.loop-event.invariant.0.capacity) c.loop-event.invariant.2 c.loop-event-test.true c.event-item.is (c.in_ok-told.ensures.none c.if-not-told.true)
