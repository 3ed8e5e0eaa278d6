use Rattle.std.proofs.Common.{◌∙◌, ap, length, sym}
use Rattle.chor_base.specs.Events.{Triple}
use Rattle.endpoint_code.specs.Network.{loads_for}
use Rattle.post_office.specs.Lanes.{QueuesView, loads_in, lane_from}
use Rattle.post_office.proofs.Lanes.{lacking_is_empty, found_is}
use Rattle.post_office.proofs.queues.Queues.len.Goals as goal

pub returns-in-Some : goal.returns-in-Some
returns-in-Some c =
    let t : Triple = (c.args.sid, c.args.from, c.args.to) in
    let ls = c.self.inside.lanes.items in
    c.len.ensures ∙ ap length (sym (found_is ls t c.in-Some.place c.index.result.now (sym (c.in-Some.ensures.place ∙ ap (λ (v : QueuesView). lane_from 0 v.lanes t) (sym c.self.view_is))) c.index.ensures))
    ∙ ap (λ (v : QueuesView). length (loads_for (loads_in v.lanes) t)) c.self.view_is

pub returns-in-None : goal.returns-in-None
returns-in-None c =
    let t : Triple = (c.args.sid, c.args.from, c.args.to) in
    sym (ap length (lacking_is_empty c.args.self.now.lanes t (sym c.in-None.ensures.place)))
