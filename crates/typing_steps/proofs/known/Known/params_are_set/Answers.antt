use Rattle.typing_rules.specs.Checks.{params_are_set}
use Rattle.typing_steps.specs.Known.{environment_of}
use Rattle.typing_steps.proofs.Passed.{param_fails, param_holds}
use Rattle.typing_steps.proofs.known.Known.params_are_set.Goals as goal

pub returns-then-not-has_set : goal.returns-then-not-has_set
returns-then-not-has_set c =
    let e = environment_of c.args.self.now in
    param_fails e c.args.params.now c.args.processes.now c.loop-index.index c.index-params-index.result c.in-Some.process.now (params_are_set e c.args.params.now c.args.processes.now)
    c.loop-index-test.true c.index-params-index.is c.in-Some.ensures.lookup.3.0 c.in-Some.ensures.lookup.1 c.if-not-has_set.ensures c.loop-index.invariant

pub loop-index-preserved : goal.loop-index-preserved
loop-index-preserved c =
    let e = environment_of c.args.self.now in
    param_holds e c.args.params.now c.args.processes.now c.loop-index.index c.index-params-index.result c.in-Some.process.now (params_are_set e c.args.params.now c.args.processes.now)
    c.loop-index-test.true c.index-params-index.is c.in-Some.ensures.lookup.3.0 c.in-Some.ensures.lookup.1 c.if-not-has_set.ensures c.loop-index.invariant
