use Rattle.std.proofs.Common.{subst, sym, arith}
use Rattle.chor_host.specs.Functions.{hosts_in}
use Rattle.chor_host.specs.Tables.{functions_of}
use Rattle.endpoint_code.specs.declared.endpoints.Endpoints.{Endpoints}
use Rattle.net_core.specs.Follows.{IsStep, HasFollowed}
use Rattle.replay.proofs.Runs.{unmatched}
use Rattle.resume.proofs.Along.{begun, more}
use Rattle.resume.proofs.following.follow_given.Goals as goal

pub loop-place-init : goal.loop-place-init
loop-place-init g c =
    let e = c.args.endpoints.now in
    let n = c.in_ok-network.ensures in
    let limit = c.most_events-most.ensures in
    let given = c.requires.given in
    let few = c.requires.few in
    begun e (hosts_in e.names (functions_of c.args.hosts.now)) c.args.plan.capacity c.args.given.now c.most_events-most.result (omega arith) c.in_ok-network.network n.endpoints n.capacity n.state n.history (omega arith) (c.are_few.ensures.0 (search))

pub returns-in-Unmatched-clause-follows : goal.returns-in-Unmatched-clause-follows
returns-in-Unmatched-clause-follows g c =
    let e = c.args.endpoints.now in
    let fs = functions_of c.args.hosts.now in
    let v = c.loop-place.network in
    let u = c.loop-place.invariant.underway in
    let x = c.index-given-place.result in
    unmatched e (hosts_in e.names fs) c.args.plan.capacity c.args.given.now c.loop-place.place x v c.loop-place-test.true u
    (λ step. c.in-Unmatched.ensures.0 (subst (λ (a : Endpoints). IsStep v.endpoints (hosts_in a.names fs) v.capacity v.state x) (sym u.endpoints) (subst (IsStep v.endpoints (hosts_in e.names fs) v.capacity v.state) (sym c.index-given-place.is) step)))

pub loop-place-preserved : goal.loop-place-preserved
loop-place-preserved g c =
    let e = c.args.endpoints.now in
    let fs = functions_of c.args.hosts.now in
    let v = c.loop-place.network in
    let x = c.index-given-place.result in
    let limit = c.most_events-most.ensures in
    let did = subst (λ (a : Endpoints). HasFollowed (hosts_in a.names fs) v x c.follow.new.self) c.loop-place.invariant.underway.endpoints c.in-Did.ensures.0 in
    more e (hosts_in e.names fs) c.args.plan.capacity c.args.given.now c.most_events-most.result (omega arith) c.loop-place.place v c.follow.new.self x c.loop-place-test.true c.index-given-place.is c.loop-place.invariant did c.in-Did.ensures.1
