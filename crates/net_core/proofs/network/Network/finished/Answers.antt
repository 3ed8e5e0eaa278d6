use Rattle.std.proofs.Common.{◌∙◌, sym, ap, Bool, ◌&&◌, drop, ◌+◌, ◌<◌, length, arith}
use Rattle.endpoint_code.specs.NetworkRuns.{all_ended}
use Rattle.net_core.proofs.Turns.{ended_turn}
use Rattle.net_core.proofs.network.Network.finished.Goals as goal

pub returns-then-not-ended : goal.returns-then-not-ended
returns-then-not-ended c =
    let v = c.args.self.now in
    let within : c.loop-pid.pid < length v.state.machines = omega (arith, c.count-pid-end.ensures.count) in
    sym (c.loop-pid.invariant ∙ ended_turn v.endpoints v.state c.loop-pid.pid c.ended.result within c.ended.ensures
    ∙ ap (λ (b : Bool). b && all_ended v.endpoints (drop (c.loop-pid.pid + 1) v.state.machines)) c.if-not-ended.true)

pub loop-pid-preserved : goal.loop-pid-preserved
loop-pid-preserved c =
    let v = c.args.self.now in
    let within : c.loop-pid.pid < length v.state.machines = omega (arith, c.count-pid-end.ensures.count) in
    c.loop-pid.invariant ∙ ended_turn v.endpoints v.state c.loop-pid.pid c.ended.result within c.ended.ensures
    ∙ ap (λ (b : Bool). b && all_ended v.endpoints (drop (c.loop-pid.pid + 1) v.state.machines)) c.if-not-ended.false
