use Rattle.std.proofs.Common.{subst, sym}
use Rattle.chor_host.specs.Functions.{hosts_in, names_of}
use Rattle.chor_host.specs.Tables.{functions_of}
use Rattle.endpoint_code.specs.declared.endpoints.Endpoints.{Endpoints}
use Rattle.endpoint_code.specs.Faults.{AsksKnown, is_listed}
use Rattle.net_core.specs.Picks.{Runs}
use Rattle.net_core.proofs.Runs.{runs_then}
use Rattle.net_core.proofs.network.Network.run_picked.Goals as goal

pub run_among_many-requires-clause-hosts : goal.run_among_many-requires-clause-hosts
run_among_many-requires-clause-hosts g c = subst (λ (e : Endpoints). AsksKnown (is_listed (names_of (functions_of c.args.hosts.now)) e) e) (sym c.in-None.ensures.gone.endpoints) c.requires.hosts

pub returns-in-None : goal.returns-in-None
returns-in-None g c =
    let first = c.args.self.now in
    let mid = c.run_among_few.new.self in
    let part = subst (λ (e : Endpoints). Runs (hosts_in e.names (functions_of c.args.hosts.now)) c.args.seed c.args.steps mid c.run_among_many.result c.run_among_many.new.self) c.in-None.ensures.gone.endpoints c.run_among_many.ensures in
    runs_then (hosts_in first.endpoints.names (functions_of c.args.hosts.now)) c.args.seed c.args.steps first mid c.run_among_many.new.self c.run_among_many.result c.in-None.ensures.gone part
