use Rattle.std.proofs.Common.{ℕ, List, [], ap, false, length, subst, sym, ◌+◌, ◌++◌, ◌<◌, ◌∙◌, ◌∷◌, ◌≡◌, ◌≤◌}
use Rattle.std.specs.Prelude.{Some, slice_set}
use Rattle.std.proofs.lemmas.Bool.{false≢true}
use Rattle.chor_base.specs.declared.value.Load.{Load}
use Rattle.chor_base.specs.Events.{Triple, triple_eq}
use Rattle.endpoint_code.specs.Network.{loads_for, with_loads}
use Rattle.post_office.specs.Lanes.{QueuesView, is_there, loads_in, room_among, room_on, lane_from}
use Rattle.post_office.proofs.Lanes.{none_there, put_found, put_none, room_apart_found, room_found, room_none, room_put_found}
use Rattle.post_office.specs.contracts.queues.Queues.{the_view}
use Rattle.post_office.proofs.Places.{indexed_put}
use Rattle.post_office.proofs.queues.Queues.put.Goals as goal

pub push-requires : goal.push-requires
push-requires c =
    let t : Triple = (c.args.sid, c.args.from, c.args.to) in
    let r : 1 ≤ room_on c.args.self.now t = c.requires in
    let e : room_on c.args.self.now t ≡ c.index_mut-lane.result.now.room =
    ap (λ (v : QueuesView). room_on v t) (sym c.self.view_is)
    ∙ room_found _ c.self.inside.lanes.items t c.in-Some.place c.index_mut-lane.result.now
    (sym (c.in-Some.ensures.place ∙ ap (λ (v : QueuesView). lane_from 0 v.lanes t) (sym c.self.view_is))) c.index_mut-lane.ensures.value
    in
    subst (λ (n : ℕ). 1 ≤ n) e r

pub open-requires-clause-absent : goal.open-requires-clause-absent
open-requires-clause-absent c = sym c.in-None.ensures.place

pub open-requires-clause-room : goal.open-requires-clause-room
open-requires-clause-room c =
    let t : Triple = (c.args.sid, c.args.from, c.args.to) in
    let r : 1 ≤ room_on c.args.self.now t = c.requires in
    let e : room_on c.args.self.now t ≡ c.args.self.now.fresh = room_none c.args.self.now.fresh c.args.self.now.lanes t
    (sym (c.in-None.ensures.place))
    in
    subst (λ (n : ℕ). 1 ≤ n) e r

pub returns-in-Some-clause-loads : goal.returns-in-Some-clause-loads
returns-in-Some-clause-loads c =
    let t : Triple = (c.args.sid, c.args.from, c.args.to) in
    let ls = c.self.inside.lanes.items in
    put_found (λ (q : List Load). q ++ c.args.load ∷ []) ls t c.in-Some.place c.index_mut-lane.result.now c.push.new.self
    (sym (c.in-Some.ensures.place ∙ ap (λ (v : QueuesView). lane_from 0 v.lanes t) (sym c.self.view_is))) c.index_mut-lane.ensures.value c.push.ensures.triple c.push.ensures.loads
    ∙ ap (λ (v : QueuesView). with_loads (loads_in v.lanes) t (loads_for (loads_in v.lanes) t ++ c.args.load ∷ [])) c.self.view_is

pub returns-in-Some-clause-room : goal.returns-in-Some-clause-room
returns-in-Some-clause-room c =
    let t : Triple = (c.args.sid, c.args.from, c.args.to) in
    let fresh = (the_view c.self.inside).fresh in
    let ls = c.self.inside.lanes.items in
    let l = c.index_mut-lane.result.now in
    let m = c.push.new.self in
    let at : lane_from 0 ls t ≡ Some c.in-Some.place = sym (c.in-Some.ensures.place ∙ ap (λ (v : QueuesView). lane_from 0 v.lanes t) (sym c.self.view_is)) in
    let same : (u : Triple) → room_on c.args.self.now u ≡ room_among fresh ls u = λ u. ap (λ (v : QueuesView). room_on v u) (sym c.self.view_is) in
    let apart : (u : Triple) → triple_eq t u ≡ false → room_among fresh (slice_set ls c.in-Some.place m) u ≡ room_on c.args.self.now u = λ u k.
    room_apart_found fresh ls t c.in-Some.place l m u at c.index_mut-lane.ensures.value c.push.ensures.triple k ∙ sym (same u) in
    record {
      own = λ _.
          let before : room_on c.args.self.now t ≡ l.room = same t ∙ room_found fresh ls t c.in-Some.place l at c.index_mut-lane.ensures.value in
          let after : room_among fresh (slice_set ls c.in-Some.place m) t ≡ m.room = room_put_found fresh ls t c.in-Some.place l m at c.index_mut-lane.ensures.value c.push.ensures.triple in
          before ∙ c.push.ensures.room ∙ ap (λ (n : ℕ). n + 1) (sym after);
      others = λ u k _. apart u k;
      unopened = λ u k _. apart u k;
    }

pub returns-in-None-clause-room : goal.returns-in-None-clause-room
returns-in-None-clause-room c =
    let t : Triple = (c.args.sid, c.args.from, c.args.to) in
    let ls = c.args.self.now.lanes in
    let none : is_there ls t ≡ false = none_there ls t (sym c.in-None.ensures.place) in
    record {
      own = λ h. absurd (false≢true (sym none ∙ h));
      others = λ u _ h. c.open.ensures.room u h;
      unopened = λ u _ h. absurd (false≢true (sym none ∙ h));
    }

pub returns-in-None-clause-loads : goal.returns-in-None-clause-loads
returns-in-None-clause-loads c =
    let t : Triple = (c.args.sid, c.args.from, c.args.to) in
    c.open.ensures.loads ∙ sym (put_none c.args.self.now.lanes t c.args.load
    (sym (c.in-None.ensures.place)))

pub invariant_of-self : goal.invariant_of-self
invariant_of-self c =
    let i = c.self.inside in
    let within : c.in-Some.place < length i.lanes.items = subst (λ (v : QueuesView). c.in-Some.place < length v.lanes) (sym c.self.view_is) c.in-Some.ensures.within in
    record {
      same = indexed_put i.directions.keys i.lanes.items c.in-Some.place c.index_mut-lane.result.now c.push.new.self c.self.invariant.same within c.index_mut-lane.ensures.value c.push.ensures.triple;
      unused = c.self.invariant.unused;
    }
