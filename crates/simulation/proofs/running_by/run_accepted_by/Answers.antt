use Rattle.std.proofs.Common.{List, ℕ, subst}
use Rattle.endpoint_code.specs.Faults.{IsFaultlessWith}
use Rattle.chor_host.specs.Tables.{functions_of}
use Rattle.endpoint_runs.specs.declared.run.Closed.TheVariants.{Ended, Limit, Stuck}
use Rattle.simulation.proofs.Runs.{checked}
use Rattle.simulation.proofs.RunsBy.{closed_of, owned_of}
use Rattle.simulation.proofs.running_by.run_accepted_by.Goals as goal

pub run_workers-requires-clause-faultless : goal.run_workers-requires-clause-faultless
run_workers-requires-clause-faultless g c κs within = subst (λ (words : List (List ℕ)). IsFaultlessWith words c.endpoints-endpoints.result.now) c.requires.hosts c.endpoints-endpoints.ensures.accepted.faultless

pub unreachable-requires : goal.unreachable-requires
unreachable-requires g c =
    let typed = c.args.accepted.now.typed in
    let e = c.endpoints-endpoints.result.now in
    let a = c.endpoints-endpoints.ensures.accepted in
    let ok = checked typed.hosts typed.file e typed.fine a in
    let told = c.in_ok-told in
    let stuck = Stuck c.in-Stuck.field-0 c.in-Stuck.field-1 in
    let run = closed_of typed.file typed.hosts e ok a c.len-count.ensures.distinct (functions_of c.args.hosts.now) c.functions_answer.ensures c.laws.ensures.alike c.laws.ensures.runs c.capacity.result c.capacity.ensures.room c.capacity.ensures.capacity c.args.workers c.args.steps told.told.history told.told.close stuck told.ensures c.in-Stuck.is c.args.accepted.now.endpoints c.endpoints-endpoints.ensures.endpoints in
    run.closes

pub returns-in-Ended : goal.returns-in-Ended
returns-in-Ended g c =
    let typed = c.args.accepted.now.typed in
    let e = c.endpoints-endpoints.result.now in
    let a = c.endpoints-endpoints.ensures.accepted in
    let ok = checked typed.hosts typed.file e typed.fine a in
    let told = c.in_ok-told in
    record {
      run = closed_of typed.file typed.hosts e ok a c.len-count.ensures.distinct (functions_of c.args.hosts.now) c.functions_answer.ensures c.laws.ensures.alike c.laws.ensures.runs c.capacity.result c.capacity.ensures.room c.capacity.ensures.capacity c.args.workers c.args.steps told.told.history told.told.close Ended told.ensures c.in-Ended.is c.args.accepted.now.endpoints c.endpoints-endpoints.ensures.endpoints;
      owned = owned_of typed.file typed.hosts e ok a c.len-count.ensures.distinct (functions_of c.args.hosts.now) c.functions_answer.ensures c.laws.ensures.alike c.laws.ensures.runs c.capacity.result c.capacity.ensures.room c.capacity.ensures.capacity c.args.workers c.args.steps told.told.history told.told.close Ended told.ensures c.in-Ended.is c.args.accepted.now.endpoints c.endpoints-endpoints.ensures.endpoints;
    }

pub returns-in-Limit : goal.returns-in-Limit
returns-in-Limit g c =
    let typed = c.args.accepted.now.typed in
    let e = c.endpoints-endpoints.result.now in
    let a = c.endpoints-endpoints.ensures.accepted in
    let ok = checked typed.hosts typed.file e typed.fine a in
    let told = c.in_ok-told in
    record {
      run = closed_of typed.file typed.hosts e ok a c.len-count.ensures.distinct (functions_of c.args.hosts.now) c.functions_answer.ensures c.laws.ensures.alike c.laws.ensures.runs c.capacity.result c.capacity.ensures.room c.capacity.ensures.capacity c.args.workers c.args.steps told.told.history told.told.close Limit told.ensures c.in-Limit.is c.args.accepted.now.endpoints c.endpoints-endpoints.ensures.endpoints;
      owned = owned_of typed.file typed.hosts e ok a c.len-count.ensures.distinct (functions_of c.args.hosts.now) c.functions_answer.ensures c.laws.ensures.alike c.laws.ensures.runs c.capacity.result c.capacity.ensures.room c.capacity.ensures.capacity c.args.workers c.args.steps told.told.history told.told.close Limit told.ensures c.in-Limit.is c.args.accepted.now.endpoints c.endpoints-endpoints.ensures.endpoints;
    }
