use Rattle.std.proofs.Common.{◌≡◌, ◌∙◌, ◌≤◌, ◌-◌, sym, subst, length}
use Rattle.chor_host.specs.Functions.{hosts_in, names_of}
use Rattle.chor_host.specs.Tables.{functions_of}
use Rattle.endpoint_code.specs.Faults.{AsksKnown, is_listed}
use Rattle.net_core.specs.Shown.{ShowsAll}
use Rattle.net_core.specs.Steps.{FitsMore}
use Rattle.net_core.specs.Views.{NetworkView}
use Rattle.net_core.proofs.Runs.{begun_run}
use Rattle.net_core.proofs.network.Network.run_among_few.Goals as goal

pub returns-in_default : goal.returns-in_default
returns-in_default g c = (begun_run (hosts_in c.args.self.now.endpoints.names (functions_of c.args.hosts.now)) c.args.seed c.args.steps c.args.self.now c.requires.before c.requires.fits).gone

pub new-scheduler-requires : goal.new-scheduler-requires
new-scheduler-requires g c = subst (λ (v : NetworkView). ShowsAll v.endpoints v.state c.in-Ok.few.heads.items) (sym c.take.ensures) c.in-Ok.ensures

pub run-picked-requires : goal.run-picked-requires
run-picked-requires g c =
    let same : c.new-scheduler.result ≡ c.args.self.now = c.new-scheduler.ensures ∙ c.take.ensures in
    record {
      hosts = subst (λ (v : NetworkView). AsksKnown (is_listed (names_of (functions_of c.args.hosts.now)) v.endpoints) v.endpoints) (sym same) c.requires.hosts;
      seed = c.requires.seed;
      before = subst (λ (v : NetworkView). length v.history ≤ c.args.steps) (sym same) c.requires.before;
      fits = subst (λ (v : NetworkView). FitsMore v (c.args.steps - length v.history)) (sym same) c.requires.fits;
    }
