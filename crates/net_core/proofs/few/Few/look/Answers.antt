use Rattle.std.proofs.Common.{◌≡◌, ◌+◌, length, arith}
use Rattle.net_core.proofs.Shown.{first_none, first_more, first_all}
use Rattle.net_core.proofs.few.Few.look.Goals as goal

pub loop-pid-init : goal.loop-pid-init
loop-pid-init c = let v = c.args.network.now in first_none v.endpoints v.state _ c.clear.ensures.items

pub loop-pid-preserved : goal.loop-pid-preserved
loop-pid-preserved c =
    let v = c.args.network.now in
    let i = c.loop-pid.pid in
    first_more v.endpoints v.state i (i + 1) c.loop-pid.self.heads.items _ c.head.result c.loop-pid.invariant c.head.ensures c.in_ok-push.ensures.items (omega arith)

pub returns : goal.returns
returns c =
    let v = c.args.network.now in
    let i = c.loop-pid.pid in
    let all : i ≡ length v.state.machines = (let a = c.count-pid-end.ensures.count in let b = c.loop-pid-test.false in let d = c.loop-pid.auto.pid-end in omega arith) in
    first_all v.endpoints v.state i c.loop-pid.self.heads.items c.loop-pid.invariant all
