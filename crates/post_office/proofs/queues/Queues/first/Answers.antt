use Rattle.std.proofs.Common.{◌∙◌, ap, sym}
use Rattle.std.specs.Prelude.{slice_get}
use Rattle.chor_base.specs.Events.{Triple}
use Rattle.endpoint_code.specs.Network.{loads_for}
use Rattle.post_office.specs.Lanes.{QueuesView, loads_in, lane_from}
use Rattle.post_office.proofs.Lanes.{first_lacking, first_found}
use Rattle.post_office.proofs.queues.Queues.first.Goals as goal

pub returns-in_err-place : goal.returns-in_err-place
returns-in_err-place c =
    let t : Triple = (c.args.sid, c.args.from, c.args.to) in
    c.from_residual.ensures ∙ sym (first_lacking c.args.self.now.lanes t (sym c.in_err-place.ensures.place))

pub returns : goal.returns
returns c =
    let t : Triple = (c.args.sid, c.args.from, c.args.to) in
    let ls = c.self.inside.lanes.items in
    c.first.ensures ∙ sym (first_found ls t c.in_ok-place.place c.index.result.now (sym (c.in_ok-place.ensures.place ∙ ap (λ (v : QueuesView). lane_from 0 v.lanes t) (sym c.self.view_is))) c.index.ensures)
    ∙ ap (λ (v : QueuesView). slice_get (loads_for (loads_in v.lanes) t) 0) c.self.view_is
