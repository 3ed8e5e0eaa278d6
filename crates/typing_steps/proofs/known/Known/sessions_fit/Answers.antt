use Rattle.typing_rules.specs.Checks.{sessions_fit}
use Rattle.typing_steps.specs.Known.{environment_of}
use Rattle.typing_steps.proofs.Passed.{session_fails, session_holds}
use Rattle.typing_steps.proofs.known.Known.sessions_fit.Goals as goal

pub returns-then-not-session_fits : goal.returns-then-not-session_fits
returns-then-not-session_fits c =
    let e = environment_of c.args.self.now in
    let qs = c.args.params.now in
    let ps = c.args.processes.now in
    session_fails e qs ps c.args.declared.now c.args.sessions.now c.loop-index.index c.index-declared-index.result c.in-Some.session.now (sessions_fit e qs ps c.args.declared.now c.args.sessions.now)
    c.loop-index-test.true c.index-declared-index.is c.in-Some.ensures.lookup.3.0 c.in-Some.ensures.lookup.1 c.if-not-session_fits.ensures c.loop-index.invariant

pub loop-index-preserved : goal.loop-index-preserved
loop-index-preserved c =
    let e = environment_of c.args.self.now in
    let qs = c.args.params.now in
    let ps = c.args.processes.now in
    session_holds e qs ps c.args.declared.now c.args.sessions.now c.loop-index.index c.index-declared-index.result c.in-Some.session.now (sessions_fit e qs ps c.args.declared.now c.args.sessions.now)
    c.loop-index-test.true c.index-declared-index.is c.in-Some.ensures.lookup.3.0 c.in-Some.ensures.lookup.1 c.if-not-session_fits.ensures c.loop-index.invariant
