use Rattle.std.proofs.Common.{subst, Some}
use Rattle.chor_host.specs.Functions.{hosts_in}
use Rattle.chor_host.specs.Tables.{functions_of}
use Rattle.endpoint_code.specs.declared.endpoints.Endpoints.{Endpoints}
use Rattle.net_core.specs.Picks.{Turns, HasTurned}
use Rattle.net_core.proofs.Runs.{begun_run, underway_more, closes_run}
use Rattle.endpoint_runs.proofs.stepwise.go_on.Goals as goal

pub loop-picked-init : goal.loop-picked-init
loop-picked-init g c = begun_run (hosts_in c.args.network.now.endpoints.names (functions_of c.args.hosts.now)) c.args.schedule.seed c.args.schedule.steps c.args.network.now c.requires.before c.requires.fits

pub returns-in-Some : goal.returns-in-Some
returns-in-Some g c =
    let first = c.args.network.now in
    let old = c.loop-picked.network in
    let s = c.args.schedule in
    let turned = subst (λ (e : Endpoints). Turns (hosts_in e.names (functions_of c.args.hosts.now)) s.seed s.steps old (Some c.in-Some.picked) c.turn.new.network) c.loop-picked.invariant.gone.endpoints c.in-Some.ensures in
    closes_run (hosts_in first.endpoints.names (functions_of c.args.hosts.now)) s.seed s.steps first old c.turn.new.network c.in-Some.picked c.loop-picked.invariant turned

pub loop-picked-preserved : goal.loop-picked-preserved
loop-picked-preserved g c =
    let first = c.args.network.now in
    let old = c.loop-picked.network in
    let s = c.args.schedule in
    let turned = subst (λ (e : Endpoints). HasTurned (hosts_in e.names (functions_of c.args.hosts.now)) s.seed s.steps old c.turn.new.network) c.loop-picked.invariant.gone.endpoints c.in_default.ensures in
    underway_more (hosts_in first.endpoints.names (functions_of c.args.hosts.now)) s.seed s.steps first old c.turn.new.network c.loop-picked.invariant turned
