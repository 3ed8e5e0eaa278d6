use Rattle.std.proofs.Common.{◌∙◌, sym, ap, Bool, cond, Some, drop, ◌+◌, ◌<◌, length, arith}
use Rattle.endpoint_code.specs.Scheduled.{least_joiner}
use Rattle.net_core.proofs.Turns.{joiner_turn}
use Rattle.net_core.proofs.network.Network.joiner.Goals as goal

pub returns-then-joins : goal.returns-then-joins
returns-then-joins c =
    let v = c.args.self.now in
    let i = c.loop-pid.pid in
    let within : i < length v.state.machines = omega (arith, c.count-pid-end.ensures.count) in
    sym (c.loop-pid.invariant ∙ joiner_turn v.endpoints v.state i c.args.channel c.args.role c.joins.result within c.joins.ensures
    ∙ ap (λ (b : Bool). cond b (Some i) (least_joiner v.endpoints (i + 1) (drop (i + 1) v.state.machines) c.args.channel c.args.role)) c.if-joins.true)

pub loop-pid-preserved : goal.loop-pid-preserved
loop-pid-preserved c =
    let v = c.args.self.now in
    let i = c.loop-pid.pid in
    let within : i < length v.state.machines = omega (arith, c.count-pid-end.ensures.count) in
    c.loop-pid.invariant ∙ joiner_turn v.endpoints v.state i c.args.channel c.args.role c.joins.result within c.joins.ensures
    ∙ ap (λ (b : Bool). cond b (Some i) (least_joiner v.endpoints (i + 1) (drop (i + 1) v.state.machines) c.args.channel c.args.role)) c.if-joins.false
