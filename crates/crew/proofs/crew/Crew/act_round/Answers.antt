use Rattle.std.proofs.Common.{◌≡◌, ◌∙◌, length, ap, arith}
use Rattle.crew.specs.Crews.{CrewView}
use Rattle.crew.proofs.Adding.{adds_more}
use Rattle.crew.proofs.Counts.{start_fits}
use Rattle.crew.proofs.crew.Crew.act_round.Goals as goal

pub act_at-requires-clause-fits : goal.act_at-requires-clause-fits
act_at-requires-clause-fits c = start_fits c.loop.office c.history.ensures.kept c.args.endpoints.now c.args.steps (c.loop.invariant.adds.endpoints ∙ c.requires.endpoints) c.loop.invariant.within c.requires.fits

pub returns-in_err-act_at-clause-adds : goal.returns-in_err-act_at-clause-adds
returns-in_err-act_at-clause-adds c =
    adds_more c.args.self.now.share c.self-in-loop.inside.share c.args.office.now c.loop.office c.act_at.new.office (ap (λ (v : CrewView). v.share) c.self-in-loop.view_is ∙ c.loop.invariant.share) c.loop.invariant.adds c.act_at.ensures.acted

pub loop-preserved : goal.loop-preserved
loop-preserved c =
    let same = c.in_ok-act_at.ensures.same in
    let one = c.act_at.ensures.one in
    let room = c.if-history-steps.false in
    record {
      share = same.share ∙ (ap (λ (v : CrewView). v.share) c.self-in-loop.view_is ∙ c.loop.invariant.share);
      noted = same.notes ∙ (ap (λ (v : CrewView). v.notes) c.self-in-loop.view_is ∙ c.loop.invariant.noted);
      adds = adds_more c.args.self.now.share c.self-in-loop.inside.share c.args.office.now c.loop.office c.act_at.new.office (ap (λ (v : CrewView). v.share) c.self-in-loop.view_is ∙ c.loop.invariant.share) c.loop.invariant.adds c.act_at.ensures.acted;
      within = omega (arith, one, room, ap (λ l. length l) c.history.ensures.history);
      after = c.in_ok-act_at.ensures.after;
    }
