use Rattle.std.proofs.Common.{arith}
use Rattle.net_core.proofs.Anew.{grown_more}
use Rattle.net_core.proofs.candidates.Candidates.grow.Goals as goal

pub loop-preserved : goal.loop-preserved
loop-preserved c =
    let lt = c.loop-test.true in
    record {
      grown = grown_more c.loop.counter c.args.self.now c.loop.self c.push.new.self c.push-in-loop.new.self c.loop.invariant.grown c.in_ok-push.ensures.ok c.in_ok-push-2.ensures.ok;
      within = omega arith;
    }
