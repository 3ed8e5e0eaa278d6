use Rattle.std.proofs.Common.{◌≡◌, ◌∙◌, ap, sym, subst, Some, ◌<◌, length, arith}
use Rattle.std.specs.Prelude.{position, slice_get}
use Rattle.std.specs.List.{IsDistinct}
use Rattle.std.proofs.lemmas.Bool.Decides.{nat_tests}
use Rattle.std.proofs.lemmas.Option.{slice_get-get_or}
use Rattle.chor_base.specs.Events.{Triple}
use Rattle.post_office.specs.declared.queues.Direction.{Direction}
use Rattle.post_office.specs.Lanes.{QueuesView, lane_from}
use Rattle.post_office.proofs.Places.{same_place, is_direction, found_there, is_at}
use Rattle.post_office.proofs.queues.Queues.place_of.Goals as goal

pub returns-in_default-clause-place : goal.returns-in_default-clause-place
returns-in_default-clause-place c =
    let i = c.self.inside in
    c.get_index_of.ensures.index
    ∙ same_place _ (c.args.sid, c.args.from, c.args.to) i.directions.keys i.lanes.items (λ d. is_direction c.args.sid c.args.from c.args.to d) c.self.invariant.same
    ∙ ap (λ (v : QueuesView). lane_from 0 v.lanes (c.args.sid, c.args.from, c.args.to)) c.self.view_is

pub returns-in-Some-clause-place : goal.returns-in-Some-clause-place
returns-in-Some-clause-place c =
    let i = c.self.inside in
    let t : Triple = (c.args.sid, c.args.from, c.args.to) in
    let d : Direction = record { sid = c.args.sid; from = c.args.from; to = c.args.to } in
    let x = c.in-Some.other.now in
    let at = c.get-recent.result in
    let keys = c.as_slice.result.now in
    let found = c.in-Some.ensures.lookup in
    let lt : at < length keys = grind (arith, nat_tests, found.0) in
    let there : slice_get keys at ≡ Some x = slice_get-get_or keys at x lt ∙ ap Some (sym (found.1)) in
    let apart = subst (IsDistinct is_at) (sym c.as_slice.ensures.keys) c.as_slice.ensures.unique in
    sym (found_there d x at keys apart there (sym c.eq.ensures ∙ c.if-eq.true))
    ∙ ap (position (is_at d)) c.as_slice.ensures.keys
    ∙ same_place _ t i.directions.keys i.lanes.items (λ d. is_direction c.args.sid c.args.from c.args.to d) c.self.invariant.same
    ∙ ap (λ (v : QueuesView). lane_from 0 v.lanes t) c.self.view_is
