use Rattle.std.proofs.Common.{◌∙◌, ap, Bool, cond, Some, drop, ◌+◌, ◌<◌, length, arith}
use Rattle.endpoint_code.specs.Scheduled.{first_waiting_from}
use Rattle.net_core.specs.Heads.{why_at}
use Rattle.net_core.proofs.Turns.{waiting_turn}
use Rattle.net_core.proofs.network.Network.first_unended.Goals as goal

pub returns-then-not-ended : goal.returns-then-not-ended
returns-then-not-ended c =
    let v = c.args.self.now in
    let i = c.loop-pid.pid in
    let within : i < length v.state.machines = omega (arith, c.count-pid-end.ensures.count) in
    c.loop-pid.invariant ∙ waiting_turn v.endpoints v.capacity v.state i c.ended.result within c.ended.ensures
    ∙ ap (λ (b : Bool). cond b (first_waiting_from v.endpoints v.capacity v.state (i + 1) (drop (i + 1) v.state.machines)) (Some (i, why_at v.endpoints v.capacity v.state i))) c.if-not-ended.true

pub loop-pid-preserved : goal.loop-pid-preserved
loop-pid-preserved c =
    let v = c.args.self.now in
    let i = c.loop-pid.pid in
    let within : i < length v.state.machines = omega (arith, c.count-pid-end.ensures.count) in
    c.loop-pid.invariant ∙ waiting_turn v.endpoints v.capacity v.state i c.ended.result within c.ended.ensures
    ∙ ap (λ (b : Bool). cond b (first_waiting_from v.endpoints v.capacity v.state (i + 1) (drop (i + 1) v.state.machines)) (Some (i, why_at v.endpoints v.capacity v.state i))) c.if-not-ended.false
