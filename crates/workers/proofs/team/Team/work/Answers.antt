use Rattle.std.proofs.Common.{rules, sym, subst}
use Rattle.workers.specs.Desks.{AreSeated, AreToGoOn}
use Rattle.workers.proofs.Takes.{take_front}
use Rattle.workers.proofs.Teams.{all_ready, on_after, seated_after}
use Rattle.workers.proofs.team.Team.work.Goals as goal

pub set_to_work-requires-clause-ready : goal.set_to_work-requires-clause-ready
set_to_work-requires-clause-ready g c κs within =
    let o = g.T.Told.origin in
    let t = c.loop.self.turn in
    all_ready o t c.as_mut_slice.result.now (subst (AreSeated o t) (sym c.as_mut_slice.ensures.value) c.loop.invariant.seats)

pub returns-then-have_ended-clause-seats : goal.returns-then-have_ended-clause-seats
returns-then-have_ended-clause-seats g c =
    let o = g.T.Told.origin in
    let t = c.loop.self.turn in
    let new = c.set_to_work.new.desks in
    subst (AreSeated o t) (sym (take_front new _ c.loop.self.desks.len (search rules)))
    (seated_after o t g.T.Shared.about c.as_mut_slice.result.now new (subst (AreSeated o t) (sym c.as_mut_slice.ensures.value) c.loop.invariant.seats) c.set_to_work.ensures.length c.set_to_work.ensures.each)

pub loop-preserved : goal.loop-preserved
loop-preserved g c =
    let o = g.T.Told.origin in
    let a = g.T.Shared.about in
    let t = c.loop.self.turn in
    let new = c.set_to_work.new.desks in
    let whole = sym (take_front new _ c.loop.self.desks.len (search rules)) in
    record {
      seats = subst (AreSeated o t) whole
          (seated_after o t a c.as_mut_slice.result.now new (subst (AreSeated o t) (sym c.as_mut_slice.ensures.value) c.loop.invariant.seats) c.set_to_work.ensures.length c.set_to_work.ensures.each);
      go_on = subst (AreToGoOn o a t) whole (on_after o t a c.as_mut_slice.result.now new c.set_to_work.ensures.length c.set_to_work.ensures.each);
      origin = c.loop.invariant.origin;
    }
