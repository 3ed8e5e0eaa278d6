use Rattle.std.proofs.Common.{List, ap, arith, get_or, length, subst, sym, ◌<◌, ◌∙◌, ◌≡◌, ◌≤◌}
use Rattle.std.specs.Prelude.{drop, slice_get, IfSome, Option, Some, None}
use Rattle.chor_base.specs.declared.value.Load.{Load}
use Rattle.chor_base.specs.Events.{Triple}
use Rattle.endpoint_code.specs.Network.{loads_for, with_loads}
use Rattle.post_office.specs.Lanes.{LaneView, QueuesView, loads_in, lane_from, room_among, room_on}
use Rattle.post_office.specs.contracts.queues.Queues.{the_view}
use Rattle.post_office.proofs.Lanes.{put_found, first_lacking, first_found, room_kept}
use Rattle.post_office.proofs.Places.{indexed_put}
use Rattle.post_office.proofs.queues.Queues.take.Goals as goal

if_some : {X : Type 0} {P : Type 0} (r : Option X) → P → IfSome r (λ _. P)
if_some None p = tt
if_some (Some x) p = p

pub returns-in_err-place-clause-first : goal.returns-in_err-place-clause-first
returns-in_err-place-clause-first c =
    let t : Triple = (c.args.sid, c.args.from, c.args.to) in
    c.from_residual.ensures ∙ sym (first_lacking c.args.self.now.lanes t (sym c.in_err-place.ensures.place))

pub returns-clause-first : goal.returns-clause-first
returns-clause-first c =
    let t : Triple = (c.args.sid, c.args.from, c.args.to) in
    let ls = c.self.inside.lanes.items in
    c.pop.ensures.first ∙ sym (first_found ls t c.in_ok-place.place c.index_mut-lane.result.now (sym (c.in_ok-place.ensures.place ∙ ap (λ (v : QueuesView). lane_from 0 v.lanes t) (sym c.self.view_is))) c.index_mut-lane.ensures.value)
    ∙ ap (λ (v : QueuesView). slice_get (loads_for (loads_in v.lanes) t) 0) c.self.view_is

pub returns-clause-rest : goal.returns-clause-rest
returns-clause-rest c =
    let t : Triple = (c.args.sid, c.args.from, c.args.to) in
    let ls = c.self.inside.lanes.items in
    if_some c.pop.result
    (put_found (λ (q : List Load). drop 1 q) ls t c.in_ok-place.place c.index_mut-lane.result.now c.pop.new.self
    (sym (c.in_ok-place.ensures.place ∙ ap (λ (v : QueuesView). lane_from 0 v.lanes t) (sym c.self.view_is))) c.index_mut-lane.ensures.value c.pop.ensures.triple c.pop.ensures.loads
    ∙ ap (λ (v : QueuesView). with_loads (loads_in v.lanes) t (drop 1 (loads_for (loads_in v.lanes) t))) c.self.view_is)

pub returns-clause-room : goal.returns-clause-room
returns-clause-room c = λ t.
    let ls = c.self.inside.lanes.items in
    let l = c.index_mut-lane.result.now in
    let within : c.in_ok-place.place < length ls = subst (λ (v : QueuesView). c.in_ok-place.place < length v.lanes) (sym c.self.view_is) c.in_ok-place.ensures.within in
    let room : l.room ≡ (get_or ls c.in_ok-place.place l).room = ap (λ (n : LaneView). n.room) c.index_mut-lane.ensures.value in
    let kept : l.room ≤ c.pop.new.self.room = c.pop.ensures.room in
    let same : room_on c.args.self.now t ≡ room_among (the_view c.self.inside).fresh ls t = ap (λ (v : QueuesView). room_on v t) (sym c.self.view_is) in
    let h = room_kept (the_view c.self.inside).fresh ls c.in_ok-place.place l c.pop.new.self t within (c.pop.ensures.triple ∙ ap (λ (n : LaneView). n.triple) c.index_mut-lane.ensures.value) (omega arith) in
    omega arith

pub invariant_of-self : goal.invariant_of-self
invariant_of-self c =
    let i = c.self.inside in
    let within : c.in_ok-place.place < length i.lanes.items = subst (λ (v : QueuesView). c.in_ok-place.place < length v.lanes) (sym c.self.view_is) c.in_ok-place.ensures.within in
    record {
      same = indexed_put i.directions.keys i.lanes.items c.in_ok-place.place c.index_mut-lane.result.now c.pop.new.self c.self.invariant.same within c.index_mut-lane.ensures.value c.pop.ensures.triple;
      unused = c.self.invariant.unused;
    }
