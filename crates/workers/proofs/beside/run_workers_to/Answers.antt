use Rattle.std.proofs.Common.{◌≡◌, sym, ◌∙◌, subst}
use denote.Param.Send.{sendable}
use Rattle.chor_host.specs.Functions.{hosts_in}
use Rattle.chor_host.specs.Tables.{functions_of}
use Rattle.chor_io.specs.Outside.{SinkState}
use Rattle.endpoint_code.proofs.Crossing.{endpoints_sync}
use Rattle.transcript.specs.Books.{words}
use Rattle.workers.specs.Streams.{WrotePrefixOfRun}
use Rattle.workers.specs.Views.{origin_of}
use Rattle.workers.proofs.Crossing.{shared_send}
use Rattle.workers.proofs.Printed.{nothing_written, streamed_so}
use Rattle.workers.proofs.beside.run_workers_to.Goals as goal

pub print_run-requires-send-T : goal.print_run-requires-send-T
print_run-requires-send-T g c κs within = search (sendable, shared_send) depth 20

pub print_run-requires-sync-P : goal.print_run-requires-sync-P
print_run-requires-sync-P g c κs within = search (sendable, endpoints_sync) depth 20

pub returns-in-Ok-print_run-clause-streamed : goal.returns-in-Ok-print_run-clause-streamed
returns-in-Ok-print_run-clause-streamed g c =
    let e = c.args.endpoints.now in
    let functions = functions_of c.args.hosts.now in
    let first = c.in-Ok.ensures in
    let done = c.in-Ok-print_run in
    let told = c.tell.ensures in
    let begins : origin_of c.in-Ok.run' ≡ record { endpoints = e; hosts = hosts_in e.names functions; capacity = c.args.capacity; workers = c.args.workers; steps = c.args.steps } =
    (λ i. record { endpoints = first.endpoints i; hosts = first.hosts i; capacity = first.capacity i; workers = first.task.0 i; steps = first.task.1 i }) in
    streamed_so (words c.args.book.now) functions c.args.capacity c.args.workers c.args.steps e (g.K.Sink.state c.args.out.now) (g.K.Sink.state c.print_run.new.out) done.run' told.kept told.run.0 told.run.1
    (done.ensures.origin ∙ begins) done.finished c.tell.result done.ensures.lines told.told

pub returns-in-Err-clause-streamed : goal.returns-in-Err-clause-streamed
returns-in-Err-clause-streamed g c =
    let e = c.args.endpoints.now in
    let before = g.K.Sink.state c.args.out.now in
    subst (λ (x : SinkState). WrotePrefixOfRun (words c.args.book.now) (hosts_in e.names (functions_of c.args.hosts.now)) c.args.capacity c.args.steps e before x) (sym c.in-Err.ensures.nothing)
    (nothing_written (words c.args.book.now) (hosts_in e.names (functions_of c.args.hosts.now)) c.args.capacity c.args.steps e before)
