use Rattle.std.proofs.Common.{ℕ, ◌∙◌, sym, ap, List, ◌++◌, ◌∷◌, [], Some, None}
use Rattle.std.specs.Prelude.{slice_set}
use Rattle.chor_base.specs.declared.value.Load.{Load}
use Rattle.chor_base.specs.declared.event.Event.TheVariants as event
use Rattle.chor_base.specs.Events.{Triple}
use Rattle.endpoint_code.specs.Network.{NetworkState, Makes, with_loads, loads_for}
use Rattle.post_office.specs.Lanes.{loads_in}
use Rattle.net_core.proofs.acts.send.Goals as goal

pub returns-clause-moves : goal.returns-clause-moves
returns-clause-moves c = λ v n h.
    let t : Triple = c.args.lane in
    let l = c.outgoing-load.result in
    let m = c.sent.new.self in
    c.sent.ensures.sent None n v t.0 t.1 t.2 l c.requires.head c.outgoing-load.ensures
    ∙ ap (λ (qs : List (Triple × List Load)). Some (Makes (event.Send c.args.machine.now.number t.0 t.1 t.2 l) (let k : NetworkState = record { machines = slice_set n.machines c.args.machine.now.number m.machine; queues = qs; sid = n.sid } in k)))
    (ap (λ (qs : List (Triple × List Load)). with_loads qs t (loads_for qs t ++ l ∷ [])) h ∙ sym c.put.ensures.loads)
    ∙ ap (λ (p : ℕ). Some (Makes (event.Send p t.0 t.1 t.2 l) (let k : NetworkState = record { machines = slice_set n.machines c.args.machine.now.number m.machine; queues = loads_in c.put.new.self.lanes; sid = n.sid } in k))) (sym (c.number.ensures ∙ c.sent.ensures.number))
