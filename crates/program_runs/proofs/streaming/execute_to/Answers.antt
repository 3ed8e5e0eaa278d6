use Rattle.std.proofs.Common.{◌∙◌, Bool, List, map, refl, sym, ap, subst}
use Rattle.chor_host.specs.Tables.{functions_of}
use Rattle.endpoint_code.specs.declared.endpoints.Process.{Process}
use Rattle.endpoint_runs.specs.Runs.{close_of}
use Rattle.chor_stream.specs.declared.finish.Finished.TheVariants.{Written, Failed, Memory}
use Rattle.unfinished_runs.specs.Continuing.{AreRunnable}
use Rattle.chor_host.proofs.Answerable.{table_answerable}
use Rattle.program_runs.specs.Transcripts.{book_of, is_stuck}
use Rattle.program_runs.specs.Streams.{WritesTranscript}
use Rattle.program_runs.proofs.Streamed.{book_with, same_book, told, failed, no_memory, before_all}
use Rattle.program_runs.proofs.streaming.execute_to.Goals as goal

pub returns-in_default-clause-written : goal.returns-in_default-clause-written
returns-in_default-clause-written g c =
    let e = c.args.endpoints.now in
    let functions = functions_of c.args.hosts.now in
    let runnable : AreRunnable functions e = record { faultless = c.requires.faultless; distinct = c.len-count.ensures.distinct; answers = table_answerable c.args.hosts.now } in
    before_all functions e c.args.capacity c.args.task.steps (book_of e) refl runnable c.runs_can_be_closed.ensures (g.K.Sink.state c.args.out.now)

pub returns-in-Failed-clause-written : goal.returns-in-Failed-clause-written
returns-in-Failed-clause-written g c =
    let e = c.args.endpoints.now in
    let functions = functions_of c.args.hosts.now in
    let runnable : AreRunnable functions e = record { faultless = c.requires.faultless; distinct = c.len-count.ensures.distinct; answers = table_answerable c.args.hosts.now } in
    let wrote = c.in-Failed.ensures.streamed in
    failed functions e c.args.capacity c.args.task.steps (book_with e c.in-Ok.processes) (same_book e c.in-Ok.processes (c.in-Ok.ensures ∙ ap (λ (ps : List Process). map (λ (p : Process). p.name) ps) c.as_slice.ensures)) runnable c.runs_can_be_closed.ensures (g.K.Sink.state c.args.out.now) (g.K.Sink.state c.run_workers_to.new.out) wrote.0 wrote.1

pub returns-in-Memory-clause-written : goal.returns-in-Memory-clause-written
returns-in-Memory-clause-written g c =
    let e = c.args.endpoints.now in
    let functions = functions_of c.args.hosts.now in
    let runnable : AreRunnable functions e = record { faultless = c.requires.faultless; distinct = c.len-count.ensures.distinct; answers = table_answerable c.args.hosts.now } in
    no_memory functions e c.args.capacity c.args.task.steps (book_with e c.in-Ok.processes) (same_book e c.in-Ok.processes (c.in-Ok.ensures ∙ ap (λ (ps : List Process). map (λ (p : Process). p.name) ps) c.as_slice.ensures)) runnable c.runs_can_be_closed.ensures (g.K.Sink.state c.args.out.now) (g.K.Sink.state c.run_workers_to.new.out) c.in-Memory.ensures.streamed

pub returns-in-Written-clause-written : goal.returns-in-Written-clause-written
returns-in-Written-clause-written g c =
    let e = c.args.endpoints.now in
    let functions = functions_of c.args.hosts.now in
    let report = c.in-Done.told in
    let made = c.in-Done.ensures.streamed in
    let close = close_of report.close in
    let wrote = told functions e c.args.capacity c.args.task.steps (book_with e c.in-Ok.processes) (same_book e c.in-Ok.processes (c.in-Ok.ensures ∙ ap (λ (ps : List Process). map (λ (p : Process). p.name) ps) c.as_slice.ensures)) c.args.task.workers Written (g.K.Sink.state c.args.out.now)
    (g.K.Sink.state c.run_workers_to.new.out) (g.K.Sink.state c.write_closing.new.out) report.history close c.len-count-2.result c.len-count-2.ensures made.0 made.1 c.run_workers_to.ensures.rises c.in-Written.ensures.line in
    subst (λ (s : Bool). WritesTranscript functions e c.args.capacity c.args.task.steps s Written (g.K.Sink.state c.args.out.now) (g.K.Sink.state c.write_closing.new.out)) (sym c.is_stuck.ensures) wrote

pub returns-in-Failed-write_closing-clause-written : goal.returns-in-Failed-write_closing-clause-written
returns-in-Failed-write_closing-clause-written g c =
    let e = c.args.endpoints.now in
    let functions = functions_of c.args.hosts.now in
    let report = c.in-Done.told in
    let made = c.in-Done.ensures.streamed in
    let close = close_of report.close in
    let wrote = told functions e c.args.capacity c.args.task.steps (book_with e c.in-Ok.processes) (same_book e c.in-Ok.processes (c.in-Ok.ensures ∙ ap (λ (ps : List Process). map (λ (p : Process). p.name) ps) c.as_slice.ensures)) c.args.task.workers Failed (g.K.Sink.state c.args.out.now)
    (g.K.Sink.state c.run_workers_to.new.out) (g.K.Sink.state c.write_closing.new.out) report.history close c.len-count-2.result c.len-count-2.ensures made.0 made.1 c.run_workers_to.ensures.rises c.in-Failed-write_closing.ensures.line in
    (is_stuck close, wrote)

pub returns-clause-written : goal.returns-clause-written
returns-clause-written g c =
    let e = c.args.endpoints.now in
    let functions = functions_of c.args.hosts.now in
    let report = c.in-Done.told in
    let made = c.in-Done.ensures.streamed in
    let close = close_of report.close in
    let wrote = told functions e c.args.capacity c.args.task.steps (book_with e c.in-Ok.processes) (same_book e c.in-Ok.processes (c.in-Ok.ensures ∙ ap (λ (ps : List Process). map (λ (p : Process). p.name) ps) c.as_slice.ensures)) c.args.task.workers Memory (g.K.Sink.state c.args.out.now)
    (g.K.Sink.state c.run_workers_to.new.out) (g.K.Sink.state c.write_closing.new.out) report.history close c.len-count-2.result c.len-count-2.ensures made.0 made.1 c.run_workers_to.ensures.rises c.in-Memory-write_closing.ensures.line in
    (is_stuck close, wrote)
