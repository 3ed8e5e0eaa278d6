use Rattle.std.proofs.Common.{◌∙◌}
use Rattle.crew.proofs.Adding.{adds_more}
use Rattle.crew.proofs.crew.Crew.act.Goals as goal

pub returns-in_err-act_round-clause-adds : goal.returns-in_err-act_round-clause-adds
returns-in_err-act_round-clause-adds c = adds_more c.args.self.now.share c.loop.self.share c.args.office.now c.loop.office c.act_round.new.office c.loop.invariant.share c.loop.invariant.adds c.act_round.ensures.adds

pub returns-then-not-branch-clause-adds : goal.returns-then-not-branch-clause-adds
returns-then-not-branch-clause-adds c = adds_more c.args.self.now.share c.loop.self.share c.args.office.now c.loop.office c.act_round.new.office c.loop.invariant.share c.loop.invariant.adds c.act_round.ensures.adds

pub loop-preserved : goal.loop-preserved
loop-preserved c = record {
  share = c.in_ok-act_round.ensures.share ∙ c.loop.invariant.share;
  noted = c.in_ok-act_round.ensures.noted;
  adds = adds_more c.args.self.now.share c.loop.self.share c.args.office.now c.loop.office c.act_round.new.office c.loop.invariant.share c.loop.invariant.adds c.act_round.ensures.adds;
  within = c.act_round.ensures.within;
  after = c.in_ok-act_round.ensures.after;
}
