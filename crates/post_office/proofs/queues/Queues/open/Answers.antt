use Rattle.std.proofs.Common.{◌∙◌, ◌≡◌, ap, refl, rules, true}
use Rattle.chor_base.specs.Events.{Triple}
use Rattle.post_office.specs.Lanes.{QueuesView, is_there, lane_from, room_on}
use Rattle.post_office.specs.contracts.queues.Queues.{the_view}
use Rattle.post_office.proofs.Lanes.{room_before}
use Rattle.post_office.proofs.Places.{is_direction, indexed_more}
use Rattle.post_office.proofs.queues.Queues.open.Goals as goal

pub invariant_of-self : goal.invariant_of-self
invariant_of-self c =
    let i = c.self.inside in
    let t : Triple = (c.args.sid, c.args.from, c.args.to) in
    record {
      same = indexed_more _ t i.directions.keys c.insert.new.self.keys i.lanes.items c.push.new.self.items _ _ (λ d. is_direction c.args.sid c.args.from c.args.to d) c.self.invariant.same
          (ap (λ (v : QueuesView). lane_from 0 v.lanes t) c.self.view_is ∙ c.requires.absent) c.in-Ok.ensures.keys c.in-Ok-push.ensures.items refl;
      unused = search rules;
    }

pub returns-clause-room : goal.returns-clause-room
returns-clause-room c = λ t h.
    let there : is_there c.self.inside.lanes.items t ≡ true = ap (λ (v : QueuesView). is_there v.lanes t) c.self.view_is ∙ h in
    room_before _ (the_view c.self.inside).fresh c.self.inside.lanes.items _ _ t c.in-Ok-push.ensures.items there ∙ ap (λ (v : QueuesView). room_on v t) c.self.view_is
