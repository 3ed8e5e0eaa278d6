use Rattle.std.proofs.Common.{List, ℕ, subst}
use Rattle.chor_host.specs.Tables.{functions_of}
use Rattle.endpoint_code.specs.Faults.{IsFaultlessWith}
use Rattle.endpoint_runs.specs.declared.run.Closed.TheVariants.{Ended, Limit, Stuck}
use Rattle.transcript.specs.Books.{words}
use Rattle.unfinished_runs.specs.Continuing.{AreRunnable}
use Rattle.chor_host.proofs.Answerable.{table_answerable}
use Rattle.simulation.proofs.Runs.{checked}
use Rattle.simulation.proofs.RunsBy.{closed_of, owned_of}
use Rattle.simulation.proofs.Streamed.{prefix_of_file}
use Rattle.simulation.proofs.streaming.run_accepted_to.Goals as goal

pub run_workers_to-requires-clause-faultless : goal.run_workers_to-requires-clause-faultless
run_workers_to-requires-clause-faultless g c κs within = subst (λ (words : List (List ℕ)). IsFaultlessWith words c.endpoints-endpoints.result.now) c.requires.hosts c.endpoints-endpoints.ensures.accepted.faultless

pub unreachable-requires : goal.unreachable-requires
unreachable-requires g c =
    let typed = c.args.accepted.now.typed in
    let e = c.endpoints-endpoints.result.now in
    let a = c.endpoints-endpoints.ensures.accepted in
    let ok = checked typed.hosts typed.file e typed.fine a in
    let functions = functions_of c.args.hosts.now in
    let report = c.in-Done.told in
    let report-is = c.in-Done.ensures.streamed in
    let stuck = Stuck c.in-Stuck.field-0 c.in-Stuck.field-1 in
    let run = closed_of typed.file typed.hosts e ok a c.len-count.ensures.distinct functions c.functions_answer.ensures c.laws.ensures.alike c.laws.ensures.runs c.capacity-capacity.result c.capacity-capacity.ensures.room c.capacity-capacity.ensures.capacity c.args.task.workers c.args.task.steps report.history report.close stuck report-is.0 c.in-Stuck.is c.args.accepted.now.endpoints c.endpoints-endpoints.ensures.endpoints in
    run.closes

pub returns-in-Failed-clause-streamed : goal.returns-in-Failed-clause-streamed
returns-in-Failed-clause-streamed g c =
    let typed = c.args.accepted.now.typed in
    let e = c.endpoints-endpoints.result.now in
    let a = c.endpoints-endpoints.ensures.accepted in
    let ok = checked typed.hosts typed.file e typed.fine a in
    let functions = functions_of c.args.hosts.now in
    let faultless = subst (λ (ws : List (List ℕ)). IsFaultlessWith ws e) c.requires.hosts a.faultless in
    let runnable : AreRunnable functions e = record { faultless = faultless; distinct = c.len-count.ensures.distinct; answers = table_answerable c.args.hosts.now } in
    let prefix = prefix_of_file c.args.accepted.now typed.hosts e ok a functions runnable c.functions_answer.ensures c.laws.ensures.alike c.laws.ensures.runs c.runs_can_be_closed.ensures c.capacity-capacity.result c.capacity-capacity.ensures.room
    c.capacity-capacity.ensures.capacity c.args.task.steps c.endpoints-endpoints.ensures.endpoints (words c.args.book.now) (g.K.Sink.state c.args.out.now) (g.K.Sink.state c.run_workers_to.new.out) in
    let wrote = c.in-Failed.ensures.streamed in
    (wrote.0, prefix wrote.1)

pub returns-in-Memory-clause-streamed : goal.returns-in-Memory-clause-streamed
returns-in-Memory-clause-streamed g c =
    let typed = c.args.accepted.now.typed in
    let e = c.endpoints-endpoints.result.now in
    let a = c.endpoints-endpoints.ensures.accepted in
    let ok = checked typed.hosts typed.file e typed.fine a in
    let functions = functions_of c.args.hosts.now in
    let faultless = subst (λ (ws : List (List ℕ)). IsFaultlessWith ws e) c.requires.hosts a.faultless in
    let runnable : AreRunnable functions e = record { faultless = faultless; distinct = c.len-count.ensures.distinct; answers = table_answerable c.args.hosts.now } in
    let prefix = prefix_of_file c.args.accepted.now typed.hosts e ok a functions runnable c.functions_answer.ensures c.laws.ensures.alike c.laws.ensures.runs c.runs_can_be_closed.ensures c.capacity-capacity.result c.capacity-capacity.ensures.room
    c.capacity-capacity.ensures.capacity c.args.task.steps c.endpoints-endpoints.ensures.endpoints (words c.args.book.now) (g.K.Sink.state c.args.out.now) (g.K.Sink.state c.run_workers_to.new.out) in
    prefix c.in-Memory.ensures.streamed

pub returns-in-Ended-clause-streamed : goal.returns-in-Ended-clause-streamed
returns-in-Ended-clause-streamed g c =
    let typed = c.args.accepted.now.typed in
    let e = c.endpoints-endpoints.result.now in
    let a = c.endpoints-endpoints.ensures.accepted in
    let ok = checked typed.hosts typed.file e typed.fine a in
    let functions = functions_of c.args.hosts.now in
    let report = c.in-Done.told in
    let report-is = c.in-Done.ensures.streamed in (
      record {
        run = closed_of typed.file typed.hosts e ok a c.len-count.ensures.distinct functions c.functions_answer.ensures c.laws.ensures.alike c.laws.ensures.runs c.capacity-capacity.result c.capacity-capacity.ensures.room c.capacity-capacity.ensures.capacity c.args.task.workers c.args.task.steps report.history report.close Ended report-is.0 c.in-Ended.is c.args.accepted.now.endpoints c.endpoints-endpoints.ensures.endpoints;
        owned = owned_of typed.file typed.hosts e ok a c.len-count.ensures.distinct functions c.functions_answer.ensures c.laws.ensures.alike c.laws.ensures.runs c.capacity-capacity.result c.capacity-capacity.ensures.room c.capacity-capacity.ensures.capacity c.args.task.workers c.args.task.steps report.history report.close Ended report-is.0 c.in-Ended.is c.args.accepted.now.endpoints c.endpoints-endpoints.ensures.endpoints;
      },
      report-is.1,
    )

pub returns-in-Limit-clause-streamed : goal.returns-in-Limit-clause-streamed
returns-in-Limit-clause-streamed g c =
    let typed = c.args.accepted.now.typed in
    let e = c.endpoints-endpoints.result.now in
    let a = c.endpoints-endpoints.ensures.accepted in
    let ok = checked typed.hosts typed.file e typed.fine a in
    let functions = functions_of c.args.hosts.now in
    let report = c.in-Done.told in
    let report-is = c.in-Done.ensures.streamed in (
      record {
        run = closed_of typed.file typed.hosts e ok a c.len-count.ensures.distinct functions c.functions_answer.ensures c.laws.ensures.alike c.laws.ensures.runs c.capacity-capacity.result c.capacity-capacity.ensures.room c.capacity-capacity.ensures.capacity c.args.task.workers c.args.task.steps report.history report.close Limit report-is.0 c.in-Limit.is c.args.accepted.now.endpoints c.endpoints-endpoints.ensures.endpoints;
        owned = owned_of typed.file typed.hosts e ok a c.len-count.ensures.distinct functions c.functions_answer.ensures c.laws.ensures.alike c.laws.ensures.runs c.capacity-capacity.result c.capacity-capacity.ensures.room c.capacity-capacity.ensures.capacity c.args.task.workers c.args.task.steps report.history report.close Limit report-is.0 c.in-Limit.is c.args.accepted.now.endpoints c.endpoints-endpoints.ensures.endpoints;
      },
      report-is.1,
    )
