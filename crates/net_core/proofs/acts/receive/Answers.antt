use Rattle.std.proofs.Common.{ℕ, ◌∙◌, sym, ap, List, Some, None, drop}
use Rattle.std.specs.Prelude.{slice_set}
use Rattle.chor_base.specs.declared.value.Load.{Load}
use Rattle.chor_base.specs.declared.event.Event.TheVariants as event
use Rattle.chor_base.specs.Events.{Triple}
use Rattle.endpoint_code.specs.Network.{NetworkState, Makes, with_loads, loads_for}
use Rattle.post_office.specs.Lanes.{loads_in}
use Rattle.net_core.specs.Machines.{fits_first}
use Rattle.net_core.proofs.Counts.{first_rest}
use Rattle.net_core.proofs.acts.receive.Goals as goal

pub receive-requires-clause-fits : goal.receive-requires-clause-fits
receive-requires-clause-fits c = ap (fits_first c.args.endpoints.now c.args.machine.now.machine) c.in-Some.ensures.first ∙ c.requires.fits

pub returns-clause-moves : goal.returns-clause-moves
returns-clause-moves c = λ v n h.
    let t : Triple = c.args.lane in
    let l = c.in-Some.load in
    let m = c.receive.new.self in
    let all = loads_for (loads_in c.args.queues.now.lanes) t in
    c.receive.ensures.taken None n v t.0 t.1 t.2 (drop 1 all) c.requires.head (ap (λ (qs : List (Triple × List Load)). loads_for qs t) h ∙ first_rest all l (sym c.in-Some.ensures.first))
    ∙ ap (λ (qs : List (Triple × List Load)). Some (Makes (event.Recv c.args.machine.now.number t.0 t.1 t.2 l) (let k : NetworkState = record { machines = slice_set n.machines c.args.machine.now.number m.machine; queues = qs; sid = n.sid } in k)))
    (ap (λ (qs : List (Triple × List Load)). with_loads qs t (drop 1 all)) h ∙ sym c.in-Some.ensures.rest)
    ∙ ap (λ (p : ℕ). Some (Makes (event.Recv p t.0 t.1 t.2 l) (let k : NetworkState = record { machines = slice_set n.machines c.args.machine.now.number m.machine; queues = loads_in c.take.new.self.lanes; sid = n.sid } in k))) (sym (c.number.ensures ∙ c.receive.ensures.number))
