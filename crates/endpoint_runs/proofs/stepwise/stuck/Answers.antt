use Rattle.std.proofs.Common.{◌<◌, length, arith}
use Rattle.endpoint_runs.proofs.StepByStep.{looks_on, looks_no_more, waits_first}
use Rattle.endpoint_runs.proofs.stepwise.stuck.Goals as goal

pub returns-in-Waits : goal.returns-in-Waits
returns-in-Waits g c =
    let within : c.loop-pid.pid < length c.args.network.now.state.machines = omega (arith, c.count-pid-end.ensures.count) in
    waits_first _ c.args.network.now c.loop-pid.network c.step.new.self c.loop-pid.pid c.in-Waits.why c.step.result c.in-Waits.is c.step.ensures c.loop-pid.invariant within

pub returns-in_default : goal.returns-in_default
returns-in_default g c = looks_no_more _ c.args.network.now c.loop-pid.network c.step.new.self c.loop-pid.pid c.step.result c.in_default.not-Waits c.in_default.not-Ended c.step.ensures c.loop-pid.invariant c.requires.none

pub loop-pid-preserved : goal.loop-pid-preserved
loop-pid-preserved g c =
    let within : c.loop-pid.pid < length c.args.network.now.state.machines = omega (arith, c.count-pid-end.ensures.count) in
    looks_on _ c.args.network.now c.loop-pid.network c.step.new.self c.loop-pid.pid c.step.result c.in-Ended.is c.step.ensures c.loop-pid.invariant within
