use Rattle.net_core.proofs.Anew.{entered_next}
use Rattle.net_core.proofs.candidates.Candidates.enter_each.Goals as goal

pub loop-pid-preserved : goal.loop-pid-preserved
loop-pid-preserved c =
    let v = c.args.network.now in
    record {
      places = c.in_ok-enter.ensures.places;
      noted = entered_next v.endpoints v.capacity v.state c.loop-pid.self c.enter.new.self c.loop-pid.pid _ c.in_ok-enter.ensures c.loop-pid.invariant.noted;
    }
