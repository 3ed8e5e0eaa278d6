use Rattle.std.proofs.Common.{subst, Some, sym}
use Rattle.std.proofs.lemmas.Option.{none-some}
use Rattle.chor_host.specs.Functions.{hosts_in, names_of}
use Rattle.chor_host.specs.Tables.{functions_of}
use Rattle.endpoint_code.specs.declared.endpoints.Endpoints.{Endpoints}
use Rattle.endpoint_code.specs.Faults.{AsksKnown, is_listed}
use Rattle.net_core.specs.Picks.{Turns, HasTurned}
use Rattle.net_core.proofs.Runs.{begun_run, underway_more, closes_run, turned_less, one_fits}
use Rattle.net_core.proofs.scheduler.Scheduler.run.Goals as goal

pub loop-self-init : goal.loop-self-init
loop-self-init g c = begun_run (hosts_in c.args.self.now.endpoints.names (functions_of c.args.hosts.now)) c.args.seed c.args.steps c.args.self.now c.requires.before c.requires.fits

pub returns-in-Some : goal.returns-in-Some
returns-in-Some g c =
    let first = c.args.self.now in
    let old = c.loop-self.self in
    let turned = subst (λ (e : Endpoints). Turns (hosts_in e.names (functions_of c.args.hosts.now)) c.args.seed c.args.steps old (Some c.in-Some.picked) c.turn.new.self) c.loop-self.invariant.gone.endpoints c.in-Some.ensures in
    record { runs = closes_run (hosts_in first.endpoints.names (functions_of c.args.hosts.now)) c.args.seed c.args.steps first old c.turn.new.self c.in-Some.picked c.loop-self.invariant turned; more = λ h. absurd (none-some _ (sym h)) }

pub loop-self-preserved : goal.loop-self-preserved
loop-self-preserved g c =
    let first = c.args.self.now in
    let old = c.loop-self.self in
    let turned = subst (λ (e : Endpoints). HasTurned (hosts_in e.names (functions_of c.args.hosts.now)) c.args.seed c.args.steps old c.turn.new.self) c.loop-self.invariant.gone.endpoints c.in_default.ensures in
    underway_more (hosts_in first.endpoints.names (functions_of c.args.hosts.now)) c.args.seed c.args.steps first old c.turn.new.self c.loop-self.invariant turned

pub turn-requires-clause-hosts : goal.turn-requires-clause-hosts
turn-requires-clause-hosts g c = subst (λ (e : Endpoints). AsksKnown (is_listed (names_of (functions_of c.args.hosts.now)) e) e) (sym c.loop-self.invariant.gone.endpoints) c.requires.hosts

pub turn-requires-clause-seed : goal.turn-requires-clause-seed
turn-requires-clause-seed g c = c.requires.seed

pub turn-requires-clause-fits : goal.turn-requires-clause-fits
turn-requires-clause-fits g c = one_fits c.loop-self.self c.args.steps c.loop-self.invariant.before c.loop-self.invariant.fits

pub loop-self-smaller : goal.loop-self-smaller
loop-self-smaller g c = turned_less (hosts_in c.loop-self.self.endpoints.names (functions_of c.args.hosts.now)) c.args.seed c.args.steps c.loop-self.self c.turn.new.self c.in_default.ensures c.loop-self.invariant.before

pub returns-clause-runs : goal.returns-clause-runs
returns-clause-runs g c = c.loop-self.invariant
