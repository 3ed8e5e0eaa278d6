use Rattle.chor_host.specs.Functions.{hosts_in}
use Rattle.chor_host.specs.Tables.{functions_of}
use Rattle.office_runs.proofs.Alike.{may_come, alike_more}
use Rattle.office_runs.proofs.Refused.{no_follow}
use Rattle.office_runs.proofs.told.tell.Goals as goal

pub make-requires : goal.make-requires
make-requires g c =
    let v = c.args.network.now in
    record {
      may = may_come (hosts_in v.endpoints.names (functions_of c.args.hosts.now)) v c.follow.new.self c.args.office.now c.args.event.now c.count-count.result c.requires.alike c.requires.fits c.count-count.ensures.count c.history.ensures.kept c.in-Did.ensures.0;
      busy = c.requires.busy;
    }

pub returns-in_ok-make-in-Did-clause-alike : goal.returns-in_ok-make-in-Did-clause-alike
returns-in_ok-make-in-Did-clause-alike g c told =
    let v = c.args.network.now in
    alike_more (hosts_in v.endpoints.names (functions_of c.args.hosts.now)) v c.follow.new.self c.args.office.now c.make.new.office c.args.event.now c.requires.alike c.in-Did.ensures.0 c.in_ok-make-in-Did.ensures.noted

pub returns-in-Unmatched-clause-none : goal.returns-in-Unmatched-clause-none
returns-in-Unmatched-clause-none g c told =
    let v = c.args.network.now in
    no_follow (hosts_in v.endpoints.names (functions_of c.args.hosts.now)) v c.args.office.now c.args.event.now c.requires.alike c.in-Unmatched.ensures.0
