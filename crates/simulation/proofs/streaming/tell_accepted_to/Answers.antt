use Rattle.chor_host.specs.Tables.{functions_of}
use Rattle.endpoint_runs.specs.Runs.{close_of as closing_of}
use Rattle.transcript.specs.Books.{words}
use Rattle.simulation.proofs.Streamed.{told, told_failed, told_memory}
use Rattle.simulation.proofs.streaming.tell_accepted_to.Goals as goal

pub returns-in-Done-clause-written : goal.returns-in-Done-clause-written
returns-in-Done-clause-written g c =
    let outcome = c.in-Done.outcome in
    let made = c.in-Done.ensures.streamed in
    told (words c.args.book.now) c.args.accepted.now (functions_of c.args.hosts.now) c.args.task.steps c.write_closing.result (g.K.Sink.state c.args.out.now) (g.K.Sink.state c.run_accepted_to.new.out) (g.K.Sink.state c.write_closing.new.out) outcome.history
    outcome.ended (closing_of c.closed.result) c.len-count.result c.len-count.ensures c.closed.ensures made.0.run made.1 c.run_accepted_to.ensures.rises c.write_closing.ensures.line

pub returns-in-Failed-clause-written : goal.returns-in-Failed-clause-written
returns-in-Failed-clause-written g c =
    let wrote = c.in-Failed.ensures.streamed in
    told_failed (words c.args.book.now) c.args.accepted.now (functions_of c.args.hosts.now) c.args.task.steps (g.K.Sink.state c.args.out.now) (g.K.Sink.state c.run_accepted_to.new.out) wrote.1 wrote.0

pub returns-in-Memory-clause-written : goal.returns-in-Memory-clause-written
returns-in-Memory-clause-written g c = told_memory (words c.args.book.now) c.args.accepted.now (functions_of c.args.hosts.now) c.args.task.steps (g.K.Sink.state c.args.out.now) (g.K.Sink.state c.run_accepted_to.new.out) c.in-Memory.ensures.streamed
