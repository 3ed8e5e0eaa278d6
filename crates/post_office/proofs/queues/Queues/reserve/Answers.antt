use Rattle.std.proofs.Common.{List, ap, arith, get_or, length, subst, sym, ◌<◌, ◌∙◌, ◌≡◌, ◌≤◌}
use Rattle.chor_base.specs.Events.{Triple}
use Rattle.post_office.specs.Lanes.{LaneView, QueuesView, loads_in, room_among, room_on, lane_from}
use Rattle.post_office.proofs.Lanes.{same_loads, room_found, room_kept, room_none, room_more, room_put_found, on_ok}
use Rattle.post_office.specs.contracts.queues.Queues.{the_view}
use Rattle.post_office.proofs.Places.{indexed_put}
use Rattle.post_office.proofs.queues.Queues.reserve.Goals as goal

pub returns-in-Some-clause-loads : goal.returns-in-Some-clause-loads
returns-in-Some-clause-loads c =
    let l = c.index_mut-lane.result.now in
    let within : c.in-Some.place < length c.self.inside.lanes.items = subst (λ (v : QueuesView). c.in-Some.place < length v.lanes) (sym c.self.view_is) c.in-Some.ensures.within in
    same_loads c.self.inside.lanes.items c.in-Some.place l c.reserve.new.self within
    (c.reserve.ensures.triple ∙ ap (λ (n : LaneView). n.triple) c.index_mut-lane.ensures.value)
    (c.reserve.ensures.loads ∙ ap (λ (n : LaneView). n.loads) c.index_mut-lane.ensures.value)
    ∙ ap (λ (v : QueuesView). loads_in v.lanes) c.self.view_is

pub returns-in-Some-clause-ok : goal.returns-in-Some-clause-ok
returns-in-Some-clause-ok c =
    let t : Triple = (c.args.sid, c.args.from, c.args.to) in
    on_ok c.reserve.result
    (λ (h : 1 ≤ c.reserve.new.self.room).
    let e = room_put_found (the_view c.self.inside).fresh c.self.inside.lanes.items t c.in-Some.place c.index_mut-lane.result.now c.reserve.new.self
    (sym (c.in-Some.ensures.place ∙ ap (λ (v : QueuesView). lane_from 0 v.lanes t) (sym c.self.view_is))) c.index_mut-lane.ensures.value c.reserve.ensures.triple in
    omega arith)
    c.reserve.ensures.ok

pub returns-in-Some-clause-kept : goal.returns-in-Some-clause-kept
returns-in-Some-clause-kept c = λ t.
    let within : c.in-Some.place < length c.self.inside.lanes.items = subst (λ (v : QueuesView). c.in-Some.place < length v.lanes) (sym c.self.view_is) c.in-Some.ensures.within in
    let room : c.index_mut-lane.result.now.room ≡ (get_or c.self.inside.lanes.items c.in-Some.place c.index_mut-lane.result.now).room = ap (λ (n : LaneView). n.room) c.index_mut-lane.ensures.value in
    let kept : c.index_mut-lane.result.now.room ≤ c.reserve.new.self.room = c.reserve.ensures.kept in
    let same : room_on c.args.self.now t ≡ room_among (the_view c.self.inside).fresh c.self.inside.lanes.items t = ap (λ (v : QueuesView). room_on v t) (sym c.self.view_is) in
    let h = room_kept (the_view c.self.inside).fresh c.self.inside.lanes.items c.in-Some.place c.index_mut-lane.result.now c.reserve.new.self t within
    (c.reserve.ensures.triple ∙ ap (λ (n : LaneView). n.triple) c.index_mut-lane.ensures.value) (omega arith) in
    omega arith

pub returns-in-Some-clause-succeeds : goal.returns-in-Some-clause-succeeds
returns-in-Some-clause-succeeds c = λ h.
    let t : Triple = (c.args.sid, c.args.from, c.args.to) in
    let e : room_on c.args.self.now t ≡ c.index_mut-lane.result.now.room =
    ap (λ (v : QueuesView). room_on v t) (sym c.self.view_is)
    ∙ room_found _ c.self.inside.lanes.items t c.in-Some.place c.index_mut-lane.result.now
    (sym (c.in-Some.ensures.place ∙ ap (λ (v : QueuesView). lane_from 0 v.lanes t) (sym c.self.view_is))) c.index_mut-lane.ensures.value
    in
    c.reserve.ensures.succeeds (omega arith)

pub returns-in-None-clause-ok : goal.returns-in-None-clause-ok
returns-in-None-clause-ok c =
    let t : Triple = (c.args.sid, c.args.from, c.args.to) in
    on_ok c.reserve_lane.result
    (λ (h : 1 ≤ c.reserve_lane.new.self.fresh).
    let e : room_on c.reserve_lane.new.self t ≡ c.reserve_lane.new.self.fresh =
    room_none c.reserve_lane.new.self.fresh c.reserve_lane.new.self.lanes t (ap (λ (ls : List LaneView). lane_from 0 ls t) c.reserve_lane.ensures.lanes ∙ (sym (c.in-None.ensures.place)))
    in
    omega arith)
    c.reserve_lane.ensures.ok

pub returns-in-None-clause-kept : goal.returns-in-None-clause-kept
returns-in-None-clause-kept c = λ t.
    let e : room_on c.reserve_lane.new.self t ≡ room_among c.reserve_lane.new.self.fresh c.args.self.now.lanes t =
    ap (λ (ls : List LaneView). room_among c.reserve_lane.new.self.fresh ls t) c.reserve_lane.ensures.lanes
    in
    let h : room_on c.args.self.now t ≤ room_among c.reserve_lane.new.self.fresh c.args.self.now.lanes t =
    room_more c.args.self.now.fresh c.reserve_lane.new.self.fresh c.args.self.now.lanes t c.reserve_lane.ensures.kept
    in
    omega arith

pub returns-in-None-clause-succeeds : goal.returns-in-None-clause-succeeds
returns-in-None-clause-succeeds c = λ h.
    let t : Triple = (c.args.sid, c.args.from, c.args.to) in
    let e : room_on c.args.self.now t ≡ c.args.self.now.fresh = room_none c.args.self.now.fresh c.args.self.now.lanes t (sym (c.in-None.ensures.place)) in
    c.reserve_lane.ensures.succeeds (omega arith)

pub invariant_of-self : goal.invariant_of-self
invariant_of-self c =
    let i = c.self.inside in
    let within : c.in-Some.place < length i.lanes.items = subst (λ (v : QueuesView). c.in-Some.place < length v.lanes) (sym c.self.view_is) c.in-Some.ensures.within in
    record {
      same = indexed_put i.directions.keys i.lanes.items c.in-Some.place c.index_mut-lane.result.now c.reserve.new.self c.self.invariant.same within c.index_mut-lane.ensures.value c.reserve.ensures.triple;
      unused = c.self.invariant.unused;
    }
